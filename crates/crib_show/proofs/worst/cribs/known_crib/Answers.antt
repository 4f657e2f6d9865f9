use Rattle.std.proofs.Common.{◌≡◌, ℕ, ◌+◌, ◌≤◌, List, [], ◌∷◌, ◌++◌, length, get_or, map, sym, ap, ◌∙◌, subst}
use Rattle.std.specs.List.{AllByRecursion}
use Rattle.crib_cards.specs.Cards.{IsRank, rank_of}
use Rattle.crib_show.specs.Show.{crib_points, fifteen_points, pair_points}
use Rattle.crib_show.proofs.KnownCrib.{both_cards, known_in_crib}
use Rattle.crib_show.proofs.worst.cribs.known_crib.Goals as goal

-- the ranks of the starter and of both cards, as they are read
known : (starter : ℕ) {s p q : ℕ} (throw : List ℕ) (v w : ℕ) → length throw ≡ 2 → s ≡ rank_of starter → p ≡ rank_of (get_or throw 0 v) →
    q ≡ rank_of (get_or throw 1 w) → s ∷ p ∷ q ∷ [] ≡ map rank_of (starter ∷ throw)
known starter throw v w two is_s is_p is_q =
    (λ i. is_s i ∷ is_p i ∷ is_q i ∷ []) ∙ ap (λ cards. rank_of starter ∷ map rank_of cards) (both_cards throw v w two)

pub returns-clause-low : goal.returns-clause-low
returns-clause-low c = λ theirs.
    let same = known c.args.starter c.args.throw.now _ _ c.told-throw c.rank.ensures.value c.rank-2.ensures.value c.rank-3.ensures.value in
    subst (λ k. k ≤ crib_points (c.args.throw.now ++ theirs) c.args.starter)
    (sym (λ i. (c.three_fifteen_points.ensures.value ∙ ap fifteen_points same) i + (c.three_pair_points.ensures.value ∙ ap pair_points same) i
    + c.jack_points.ensures.value i))
    (known_in_crib c.args.starter c.args.throw.now theirs)

pub returns-clause-ranks : goal.returns-clause-ranks
returns-clause-ranks c = subst (AllByRecursion IsRank)
    (known c.args.starter c.args.throw.now _ _ c.told-throw c.rank.ensures.value c.rank-2.ensures.value c.rank-3.ensures.value)
    (c.rank.ensures.range, (c.rank-2.ensures.range, (c.rank-3.ensures.range, tt)))
