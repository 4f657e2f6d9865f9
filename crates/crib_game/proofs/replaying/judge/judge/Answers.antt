use Rattle.std.proofs.Common.{refl, sym, ◌∙◌}
use Rattle.std.proofs.lemmas.Result.{err_from_is_err_and}
use Rattle.crib_game.proofs.replaying.judge.judge.Goals as goal

pub returns-in-Some-clause-refused : goal.returns-in-Some-clause-refused
returns-in-Some-clause-refused g c = rw (sym c.deal_fault.ensures.fault ∙ c.in-Some.is) refl

pub returns-in_err-walk-clause-refused : goal.returns-in_err-walk-clause-refused
returns-in_err-walk-clause-refused g c =
    let p = err_from_is_err_and c.from_residual.result c.from_residual.ensures.1 in
    rw (p.1, p.2, sym c.deal_fault.ensures.fault ∙ c.in_default.is, ← c.as_slice-acts.ensures.value, c.in_err-walk.ensures.refused) refl

pub returns-in-Some-few_fault-clause-refused : goal.returns-in-Some-few_fault-clause-refused
returns-in-Some-few_fault-clause-refused g c =
    rw (sym c.deal_fault.ensures.fault ∙ c.in_default.is, ← c.as_slice-acts.ensures.value, c.in_ok-walk.ensures.judged.clear, ← c.played.ensures.value)
    (sym c.few_fault.ensures ∙ c.in-Some-few_fault.is)

pub returns-in-None-clause-judged : goal.returns-in-None-clause-judged
returns-in-None-clause-judged g c = record {
  six = c.in_default.ensures.cards.six;
  clear = rw (sym c.deal_fault.ensures.fault ∙ c.in_default.is, ← c.as_slice-acts.ensures.value, c.in_ok-walk.ensures.judged.clear, ← c.played.ensures.value)
      (sym c.few_fault.ensures ∙ c.in-None.is);
  after = rw (← c.as_slice-acts.ensures.value) c.in_ok-walk.ensures.judged;
}

pub returns-in-None-clause-followed : goal.returns-in-None-clause-followed
returns-in-None-clause-followed g c = rw (← c.as_slice-acts.ensures.value) c.in_ok-walk.ensures.followed
