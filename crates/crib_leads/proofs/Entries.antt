-- Entries of turns, one after another.
use Rattle.std.proofs.Common.{◌≡◌, inl, inr, ℕ, Bool, true, false, cond, List, [], ◌∷◌, ◌++◌, Some, None, refl, sym, ap, subst, ◌∙◌}
use Rattle.std.specs.Prelude.{filter, IsTrue}
use Rattle.std.specs.List.{AllZip}
use Rattle.std.proofs.Common.{◌≤◌, ◌-◌, length, get_or, take, drop, arith}
use Rattle.std.proofs.lemmas.List.{append_assoc, append-nil, map-append, take_all}
use Rattle.std.proofs.lemmas.List.Elements.{filter-append}
use Rattle.crib_cards.specs.Cards.{pack, ranks}
use Rattle.crib_cards.specs.Sets.{set_where}
use Rattle.crib_cards.specs.declared.sides.Side.TheVariants.{Owner, Opponent}
use Rattle.crib_cards.specs.declared.moves.Move.TheVariants as move
use Rattle.crib_cards.specs.declared.moves.Act.{Act}
use Rattle.crib_problem.specs.Setup.{Setup}
use Rattle.crib_search.specs.Winnable.{IsWinnableAfter}
use Rattle.crib_leads.specs.declared.leads.Lead.{Lead}
use Rattle.crib_leads.specs.Leads.{AreEntries, AreOfRank, AreOfRanks, AreTheirs, IsEntry, IsLowest, cards_of, go_of}
use Rattle.crib_leads.specs.Leads.{is_sure, may_come, own_turns, played_by, worst_first}
use Rattle.crib_leads.specs.Private.Turns.{Adds}

zip_append : {A B : Type 0} (R : A → B → Type 0) (xs others : List A) (ys more : List B) → AllZip R xs ys → AllZip R others more →
    AllZip R (xs ++ others) (ys ++ more)
zip_append R [] others [] more are and = and
zip_append R [] others (y ∷ ys) more are and = absurd are
zip_append R (x ∷ xs) others [] more are and = absurd are
zip_append R (x ∷ xs) others (y ∷ ys) more are and = (are.0, zip_append R xs others ys more are.1 and)

entries_append : (problem : Setup) (acts others : List Act) (leads more : List Lead) → AreEntries problem acts leads → AreEntries problem others more →
    AreEntries problem (acts ++ others) (leads ++ more)
entries_append problem acts others leads more are and =
    subst (λ (turns : List Act). AllZip (IsEntry problem) turns (leads ++ more)) (sym (filter-append (may_come problem) acts others))
    (zip_append (IsEntry problem) (filter (may_come problem) acts) (filter (may_come problem) others) leads more are and)

-- ---- one turn
module _ (problem : Setup) (act : Act) (old new : List Lead) where
  pub one_more : (lead : Lead) → may_come problem act ≡ true → IsEntry problem act lead → new ≡ old ++ lead ∷ [] → Adds problem (act ∷ []) old new
  one_more lead may is same =
      (lead ∷ [], subst (λ (b : Bool). AllZip (IsEntry problem) (cond b (act ∷ []) []) (lead ∷ [])) (sym may) (is, tt), same)

  pub none_more : may_come problem act ≡ false → new ≡ old → Adds problem (act ∷ []) old new
  none_more not same =
      ([], subst (λ (b : Bool). AllZip (IsEntry problem) (cond b (act ∷ []) []) []) (sym not) tt, same ∙ sym (append-nil old))

-- ---- turns that are added after others
pub added_both : (problem : Setup) (acts others : List Act) (old leads more : List Lead) → Adds problem acts old leads →
    Adds problem others leads more → Adds problem (acts ++ others) old more
added_both problem acts others old leads more one other = (
  one.0 ++ other.0,
  entries_append problem acts others one.0 other.0 one.1 other.1,
  other.2 ∙ ap (λ (front : List Lead). front ++ other.0) one.2 ∙ append_assoc old one.0 other.0,
)

pub nothing_added : (problem : Setup) (old : List Lead) → Adds problem [] old old
nothing_added problem old = ([], tt, sym (append-nil old))

-- ---- the cards of the owner, one by one

-- the cards that are left are the last ones of the pack, and there are entries for the others
pub record AreSoFar (problem : Setup) (rest : List ℕ) (leads : List Lead) : Type 0 where
  pub done : List ℕ
  pub all : done ++ rest ≡ pack
  pub added : Adds problem (played_by Owner done) [] leads

pub full_is_pack : set_where (λ card. true) ≡ pack
unfolding set_where
full_is_pack = refl

pub no_card : (problem : Setup) → AreSoFar problem pack []
no_card problem = record { done = []; all = refl; added = nothing_added problem [] }

pub card_more : (problem : Setup) (card : ℕ) (rest : List ℕ) (leads more : List Lead) → AreSoFar problem (card ∷ rest) leads →
    Adds problem (played_by Owner (card ∷ [])) leads more → AreSoFar problem rest more
card_more problem card rest leads more is one = record {
  done = is.done ++ card ∷ [];
  all = append_assoc is.done (card ∷ []) rest ∙ is.all;
  added = subst (λ (acts : List Act). Adds problem acts [] more)
      (sym (map-append (λ (c : ℕ). record { side = Owner; what = move.Card c }) is.done (card ∷ [])))
      (added_both problem (played_by Owner is.done) (played_by Owner (card ∷ [])) [] leads more is.added one);
}

pub all_cards : (problem : Setup) (leads more : List Lead) → AreSoFar problem [] leads → Adds problem (go_of Owner ∷ []) leads more →
    AreEntries problem own_turns more
all_cards problem leads more is go =
    let both = added_both problem (played_by Owner pack) (go_of Owner ∷ []) [] leads more
    (subst (λ (cards : List ℕ). Adds problem (played_by Owner cards) [] leads) (sym (append-nil is.done) ∙ is.all) is.added) go in
    subst (AreEntries problem own_turns) (sym both.2) both.1

-- ---- the ranks of the opponent

-- entries of a rank that are added
abbrev pub AddsRank : Setup → ℕ → List Lead → List Lead → Type 0
AddsRank problem rank old new = (here : List Lead) × AreOfRank problem rank here × (new ≡ old ++ here)

module _ (problem : Setup) (rank : ℕ) (old new : List Lead) where
  pub no_rank : IsLowest problem (filter (may_come problem) (played_by Opponent (cards_of rank))) None → new ≡ old → AddsRank problem rank old new
  no_rank none same = ([], (None, none, refl), same ∙ sym (append-nil old))

  pub whole_rank : (lead : Lead) → IsLowest problem (filter (may_come problem) (played_by Opponent (cards_of rank))) (Some lead) →
      (IsTrue (is_sure lead.verdict) → IsWinnableAfter problem rank) → new ≡ old ++ lead ∷ [] → AddsRank problem rank old new
  whole_rank lead lowest sure same = (lead ∷ [], (Some lead, lowest, inl (refl, sure)), same)

  pub by_suit : (lead : Lead) → IsLowest problem (filter (may_come problem) (played_by Opponent (cards_of rank))) (Some lead) →
      IsTrue (is_sure lead.verdict) → ¬ IsWinnableAfter problem rank → Adds problem (played_by Opponent (cards_of rank)) old new →
      AddsRank problem rank old new
  by_suit lead lowest sure none added = (added.0, (Some lead, lowest, inr (added.1, sure, none)), added.2)

-- entries of some ranks that are added
abbrev pub AddsRanks : Setup → List ℕ → List Lead → List Lead → Type 0
AddsRanks problem ranks old new = (here : List Lead) × AreOfRanks problem ranks here × (new ≡ old ++ here)

-- the first number of some, and the others
pub ranks_left : (numbers : List ℕ) (rank d : ℕ) → 1 ≤ length numbers → rank ≡ get_or numbers 0 d →
    numbers ≡ rank ∷ take (length numbers - 1) (drop 1 numbers)
ranks_left [] rank d some is = absurd (omega (arith, some))
ranks_left (number ∷ numbers) rank d some is = λ i. sym is i ∷ sym (take_all (length (number ∷ numbers) - 1) numbers (omega arith)) i

pub ranks_more : (problem : Setup) (rank : ℕ) (others : List ℕ) (old leads new : List Lead) → AddsRank problem rank old leads →
    AddsRanks problem others leads new → AddsRanks problem (rank ∷ others) old new
ranks_more problem rank _ old leads new one others = (
  one.0 ++ others.0,
  (one.0, others.0, one.1, others.1, refl),
  others.2 ∙ ap (λ (front : List Lead). front ++ others.0) one.2 ∙ append_assoc old one.0 others.0,
)

pub all_theirs : (problem : Setup) (cards all sorted : List Lead) → AreOfRanks problem ranks cards →
    Adds problem (go_of Opponent ∷ []) cards all → sorted ≡ worst_first all → AreTheirs problem sorted
all_theirs problem cards all sorted are go same = (cards, go.0, are, go.1, same ∙ ap worst_first go.2)
