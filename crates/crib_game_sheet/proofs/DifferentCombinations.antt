-- No combination is listed twice.
use Rattle.std.proofs.Common.{◌≡◌, ◌≢◌, ℕ, suc, ◌<◌, eqb, Bool, true, false, not, List, [], ◌∷◌, ◌++◌, map, filter}
use Rattle.std.proofs.Common.{refl, sym, ap, ◌∙◌, arith, true≢false}
use Rattle.std.specs.List.{AllByRecursion}
use Rattle.std.proofs.lemmas.Bool.{and_parts, cond_both, eq-eqb, not-true, or_parts}
use Rattle.crib_cards.specs.Sets.{has, are_distinct, AreDifferent}
use Rattle.crib_show.specs.Show.{choices}
use Rattle.crib_show.proofs.ReorderedLists.{are_distinct-reordered, last_first}
use Rattle.crib_game_sheet.specs.declared.game.combination.Kind.{Kind}
use Rattle.crib_game_sheet.specs.declared.game.combination.Kind.TheVariants.{Fifteen, Pair, Run, Flush, Jack}
use Rattle.crib_game_sheet.specs.declared.game.combination.Combination.{Combination}
use Rattle.crib_game_sheet.specs.GameShow.{combination, combinations_of, plain_combinations, flush_in_hand, flush_in_crib}
use Rattle.crib_game_sheet.specs.GameShow.{jack_among, hand_combinations, crib_combinations}
use Rattle.crib_game_sheet.specs.GameShowLaws.{HandListLaw, CribListLaw}
use Rattle.crib_cards.proofs.AllEntries.{all_both, all_every, all_filter, all_map, all_weaker}

-- lists whose entries differ
differ_map : {X Y : Type 0} (f : X → Y) → ((x y : X) → f x ≡ f y → x ≡ y) → (xs : List X) → AreDifferent xs → AreDifferent (map f xs)
differ_map f apart [] differ = tt
differ_map f apart (x ∷ xs) differ = (
  all_map (λ y. f x ≢ y) f xs (all_weaker (λ y. x ≢ y) (λ y. f x ≢ f y) (λ y not e. not (apart x y e)) xs differ.0),
  differ_map f apart xs differ.1,
)

differ_filter : {X : Type 0} (p : X → Bool) (xs : List X) → AreDifferent xs → AreDifferent (filter p xs)
differ_filter p [] differ = tt
differ_filter p (x ∷ xs) differ =
    cond_both (p x) _ _ AreDifferent (λ e. (all_filter (λ y. x ≢ y) p xs differ.0, differ_filter p xs differ.1)) (λ e. differ_filter p xs differ.1)

pub differ_both : {X : Type 0} (xs ys : List X) → AreDifferent xs → AreDifferent ys → AllByRecursion (λ x. AllByRecursion (λ y. x ≢ y) ys) xs →
    AreDifferent (xs ++ ys)
differ_both [] ys differ more apart = more
differ_both (x ∷ xs) ys differ more apart = (all_both (λ y. x ≢ y) xs ys differ.0 apart.0, differ_both xs ys differ.1 more apart.1)

-- no choice begins with a card that is not there
begins : (card : ℕ) (cards : List ℕ) → has cards card ≡ false → AllByRecursion (λ set. (rest : List ℕ) → card ∷ rest ≢ set) (choices cards)
begins card [] out = (λ rest e. absurd cc, tt)
begins card (other ∷ cards) out =
    let outs = or_parts (eqb other card) (has cards card) out in
    all_both (λ set. (rest : List ℕ) → card ∷ rest ≢ set) (map (λ set. other ∷ set) (choices cards)) (choices cards)
    (all_map (λ set. (rest : List ℕ) → card ∷ rest ≢ set) (λ set. other ∷ set) (choices cards)
    (all_every (λ set. (rest : List ℕ) → card ∷ rest ≢ other ∷ set)
    (λ set rest e. let same : card ≡ other = cc in true≢false (sym (eq-eqb other card (sym same)) ∙ outs.0)) (choices cards)))
    (begins card cards outs.1)

-- the choices from different cards differ
choices_differ : (cards : List ℕ) → are_distinct cards ≡ true → AreDifferent (choices cards)
choices_differ [] are = (tt, tt)
choices_differ (card ∷ cards) are =
    let parts = and_parts (not (has cards card)) (are_distinct cards) are in
    let rest = choices_differ cards parts.1 in
    differ_both (map (λ set. card ∷ set) (choices cards)) (choices cards)
    (differ_map (λ set. card ∷ set) (λ set other e. cc) (choices cards) rest) rest
    (all_map (λ set. AllByRecursion (λ other. set ≢ other) (choices cards)) (λ set. card ∷ set) (choices cards)
    (all_every (λ set. AllByRecursion (λ other. card ∷ set ≢ other) (choices cards))
    (λ set. all_weaker (λ other. (rest : List ℕ) → card ∷ rest ≢ other) (λ other. card ∷ set ≢ other) (λ other begins. begins set) (choices cards)
    (begins card cards (not-true (has cards card) parts.0))) (choices cards)))

-- different entries, whose indices are below this one
pub record Stands {X : Type 0} (order : X → ℕ) (index : ℕ) (made : List X) : Type 0 where
  pub before : AllByRecursion (λ one. order one < index) made
  pub differ : AreDifferent made

-- more entries, which have this index
pub joined : {X : Type 0} (order : X → ℕ) (index : ℕ) (made more : List X) → Stands order index made → AllByRecursion (λ one. order one ≡ index) more →
    AreDifferent more → Stands order (suc index) (made ++ more)
joined order index made more stands at differ = record {
  before =
      all_both (λ one. order one < suc index) made more
      (all_weaker (λ one. order one < index) (λ one. order one < suc index) (λ one below. omega (arith, below)) made stands.before)
      (all_weaker (λ one. order one ≡ index) (λ one. order one < suc index) (λ one is. omega (arith, is)) more at);
  differ =
      differ_both made more stands.differ differ
      (all_weaker (λ one. order one < index) (λ one. AllByRecursion (λ other. one ≢ other) more)
      (λ one below. all_weaker (λ other. order other ≡ index) (λ other. one ≢ other)
      (λ other is e. let same : order one ≡ order other = ap order e in absurd (omega (arith, below, is, same))) more at) made
      stands.before);
}

-- the index of a kind in a list of combinations
abbrev order : Kind → ℕ
order Fifteen = 0
order Pair = 1
order Run = 2
order Flush = 3
order Jack = 4

abbrev kind_order : Combination → ℕ
kind_order made = order made.kind

abbrev AreAt : ℕ → List Combination → Type 0
AreAt index made = AllByRecursion (λ one. kind_order one ≡ index) made

kind_at : (kind : Kind) (all : List ℕ) → AreAt (order kind) (combinations_of kind all)
unfolding combinations_of
kind_at kind all = all_map (λ one. kind_order one ≡ order kind) (combination kind) _ (all_every (λ cards. order kind ≡ order kind) (λ cards. refl) _)

kind_differs : (kind : Kind) (all : List ℕ) → are_distinct all ≡ true → AreDifferent (combinations_of kind all)
unfolding combinations_of
kind_differs kind all are =
    differ_map (combination kind) (λ cards others e. ap (λ m. m.cards.items) e) _ (differ_filter _ (choices all) (choices_differ all are))

plain_stands : (all : List ℕ) → are_distinct all ≡ true → Stands kind_order 3 (plain_combinations all)
plain_stands all are =
    joined kind_order 2 (combinations_of Fifteen all ++ combinations_of Pair all) (combinations_of Run all)
    (joined kind_order 1 (combinations_of Fifteen all) (combinations_of Pair all)
    (joined kind_order 0 [] (combinations_of Fifteen all) (record { before = tt; differ = tt }) (kind_at Fifteen all) (kind_differs Fifteen all are))
    (kind_at Pair all) (kind_differs Pair all are)) (kind_at Run all) (kind_differs Run all are)

-- a list of one combination of a kind, or of none
abbrev AreAlone : ℕ → List Combination → Type 0
AreAlone index made = AreAt index made × AreDifferent made

hand_flush_alone : (cards : List ℕ) (starter : ℕ) → AreAlone 3 (flush_in_hand cards starter)
hand_flush_alone cards starter = grind (arith)

crib_flush_alone : (cards : List ℕ) (starter : ℕ) → AreAlone 3 (flush_in_crib cards starter)
crib_flush_alone cards starter = grind (arith)

jack_alone : (cards : List ℕ) (starter : ℕ) → AreAlone 4 (jack_among cards starter)
jack_alone [] starter = (tt, tt)
jack_alone (card ∷ cards) starter = grind (arith, jack_alone cards starter)

all_distinct : (cards : List ℕ) (starter : ℕ) → are_distinct (starter ∷ cards) ≡ true → are_distinct (cards ++ starter ∷ []) ≡ true
all_distinct cards starter are = are_distinct-reordered (cards ++ starter ∷ []) (starter ∷ cards) (last_first cards starter) ∙ are

-- whatever the flush, what is counted with it differs
list_differs : (cards : List ℕ) (starter : ℕ) (flush : List Combination) → are_distinct (starter ∷ cards) ≡ true → AreAlone 3 flush →
    AreDifferent (plain_combinations (cards ++ starter ∷ []) ++ flush ++ jack_among cards starter)
list_differs cards starter flush are alone =
    let last = jack_alone cards starter in
    let plain = plain_stands (cards ++ starter ∷ []) (all_distinct cards starter are) in
    (joined kind_order 4 (plain_combinations (cards ++ starter ∷ []) ++ flush) (jack_among cards starter)
    (joined kind_order 3 (plain_combinations (cards ++ starter ∷ [])) flush plain alone.0 alone.1) last.0 last.1).differ

pub hand_list_law : HandListLaw
unfolding hand_combinations
hand_list_law cards starter are = list_differs cards starter (flush_in_hand cards starter) are (hand_flush_alone cards starter)

pub crib_list_law : CribListLaw
unfolding crib_combinations
crib_list_law cards starter are = list_differs cards starter (flush_in_crib cards starter) are (crib_flush_alone cards starter)
