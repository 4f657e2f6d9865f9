-- Two knowledges compare as equal exactly where they are the same.
use Rattle.std.proofs.Common.{sym, subst, ◌≡◌}
use Rattle.std.specs.Bool.{Decides}
use Rattle.std.proofs.lemmas.Bool.Decides.{Decides-eqb, Decides-and, Decides-like}
use Rattle.crib_cards.specs.Sets.{IsCardSet}
use Rattle.crib_cards.proofs.SetFacts.{IsCardSet-set_of}
use Rattle.crib_cards.proofs.SetLemmas.{IsCardSet-set_where}
use Rattle.crib_cards.proofs.Equality.{same_sets, same_counts}
use Rattle.crib_play.proofs.Equality.{same_rounds}
use Rattle.crib_know.specs.Knowledge.{Knowledge}
use Rattle.crib_know.specs.Hidden.{IsKnown}
use Rattle.crib_know.specs.contracts.know.KnowPartialEq.TheImpl as compared

pub same_knows : (one other : Knowledge) → IsKnown one → IsKnown other → Decides (compared.ghosts.eq one other) (one ≡ other)
same_knows one other known known_other =
    Decides-like _
    (λ h i. record {
      round = h.0.0 i;
      own_left = h.0.1.0 i;
      ranks_seen = h.1.0 i;
      opponent_left = h.1.1.0 i;
      least = h.1.1.1 i;
      unseen = h.0.1.1.0 i;
      fixed = h.0.1.1.1 i;
    })
    (λ e. (
      (λ i. (e i).round, (λ i. (e i).own_left, (λ i. (e i).unseen, λ i. (e i).fixed))),
      (λ i. (e i).ranks_seen, (λ i. (e i).opponent_left, λ i. (e i).least)),
    ))
    (Decides-and _ _
    (Decides-and _ _ (same_rounds one.round other.round)
    (Decides-and _ _ (same_sets one.own_left other.own_left (sets one known).0 (sets other known_other).0)
    (Decides-and _ _ (same_sets one.unseen other.unseen (sets one known).1 (sets other known_other).1)
    (same_sets one.fixed other.fixed (sets one known).2 (sets other known_other).2))))
    (Decides-and _ _ (same_counts one.ranks_seen other.ranks_seen)
    (Decides-and _ _ (Decides-eqb one.opponent_left other.opponent_left) (Decides-eqb one.least other.least))))
  where
    sets : (know : Knowledge) → IsKnown know → IsCardSet know.own_left × IsCardSet know.unseen × IsCardSet know.fixed
    sets know known =
        let S : Knowledge → Type 0 = λ k. IsCardSet k.own_left × IsCardSet k.unseen × IsCardSet k.fixed in
        subst S (sym known.knows.knowledge) (IsCardSet-set_of _, IsCardSet-set_where _, IsCardSet-set_of _)
