-- The answer for a knowledge, put together from the answers after each turn.
use Rattle.std.proofs.Common.{◌≡◌, ◌⊎◌, ◌↔◌, ℕ, zero, suc, ◌+◌, ◌<◌, ◌≤◌, Bool, true, false, cond, List, [], ◌∷◌, ◌++◌, length, drop, get_or}
use Rattle.std.proofs.Common.{Option, Some, None, refl, sym, ap, ◌∙◌, inl, inr, arith}
use Rattle.std.specs.Prelude.{Result, Ok, Err, IfOk, OnOk, OnErr}
use Rattle.std.specs.Bool.{then_some}
use Rattle.std.specs.List.{AllZip}
use Rattle.std.proofs.lemmas.Bool.{both_ways, cases_Bool}
use Rattle.std.proofs.lemmas.List.{drop_more}
use Rattle.crib_cards.specs.declared.letters.Letter.{Letter}
use Rattle.crib_cards.specs.declared.moves.Move.TheVariants as move
use Rattle.crib_play.specs.declared.turns.Turn.{Turn}
use Rattle.crib_play.specs.declared.turns.Turn.TheVariants as turns
use Rattle.crib_play.specs.History.{Event, Own, Theirs}
use Rattle.crib_problem.specs.Setup.{Setup}
use Rattle.crib_know.specs.Knowledge.{Knowledge, asked_now}
use Rattle.crib_know.specs.Hidden.{CanShow, IsKnown, KnowsAfter}
use Rattle.crib_know.proofs.OwnCalls.{moved}
use Rattle.crib_sure.specs.Shows.{IsReachedBehind}
use Rattle.crib_search.specs.declared.nodes.DraftPlace.{DraftPlace}
use Rattle.crib_search.specs.declared.nodes.DraftPlace.TheVariants.{End}
use Rattle.crib_search.specs.declared.nodes.DraftNode.{DraftNode}
use Rattle.crib_search.specs.declared.nodes.DraftNode.TheVariants.{Play}
use Rattle.crib_search.specs.declared.search.Search.{Search}
use Rattle.crib_search.specs.Trees.{Tree, Finish, Plays, joined_tree}
use Rattle.crib_search.specs.Private.Nodes.{IsEarlier, IsMore, IsPlaceOf, Names, NamesFound}
use Rattle.crib_search.specs.Finder.{Found, FindsFor, Tries, BranchFinds, Finds, letters, options}
use Rattle.crib_know.specs.Private.Ahead.{turns_ahead}
use Rattle.crib_search.specs.Private.Search.{AreAnswers, IsAfter, IsAnswer, IsBranch, IsHere, IsLater, Tells}
use Rattle.crib_know.specs.contracts.know.KnowPartialEq.TheImpl as knows_compared
use Rattle.crib_know.proofs.TurnsAhead.{know_falls}
use Rattle.crib_know.proofs.Equality.{same_knows}
use Rattle.crib_search.proofs.JoinedTrees.{draft_place_earlier}
use Rattle.crib_search.proofs.KeptNodes.{names_more}

-- what is known after a visible turn, whatever came before it
abbrev Steps : Setup → Knowledge → Event → Knowledge → Type 0
Steps problem know event next = (history : List Event) → KnowsAfter know problem history → KnowsAfter next problem (event ∷ history)

-- after a turn of a knowledge that is here, the next one is here, and fewer turns may be next
pub goes_on : (know copy next : Knowledge) (event : Event) → copy ≡ know → ((problem : Setup) → Steps problem copy event next) →
    (problem : Setup) → IsHere problem know → IsHere problem next × (turns_ahead next < turns_ahead know)
goes_on know copy next event same steps problem here =
    let after = steps problem here.0 (moved copy know problem here.0 same here.1) in
    ((event ∷ here.0, after), know_falls know next problem event here.0 here.1 after)

-- ---- what an answer names
pub none_named : (draft_nodes : List DraftNode) (tree : Option Tree) → NamesFound draft_nodes tree None → tree ≡ None
none_named draft_nodes None names = refl
none_named draft_nodes (Some tree) names = absurd (cc (names.1))

pub some_named : (draft_nodes : List DraftNode) (tree : Option Tree) (draft_place : DraftPlace) → NamesFound draft_nodes tree (Some draft_place) →
    (found : Tree) × (tree ≡ Some found) × Names draft_nodes found draft_place
some_named draft_nodes None draft_place names = absurd cc
some_named draft_nodes (Some tree) draft_place names = let same : draft_place ≡ names.0 = cc (names.1) in (tree, refl, rw same names.2)

-- the place of an answer is kept
pub answer_earlier : (problem : Setup) (draft_nodes : List DraftNode) (know : Knowledge) (says : ℕ → List Event → Option Tree → Type 0)
    (draft_place : DraftPlace) → IsHere problem know → Tells problem draft_nodes know (Some draft_place) says →
    IsEarlier (length draft_nodes) draft_place
answer_earlier problem draft_nodes know says draft_place here told =
    let found = told.each here.0 (turns_ahead know) here.1 (omega arith) in
    let named = some_named draft_nodes found.0 draft_place found.1 in
    draft_place_earlier draft_nodes named.0 draft_place named.2

-- ---- more nodes are kept
answers_more : (problem : Setup) (before after : List DraftNode) → IsMore before after → (answers : Knowledge → Option (Option DraftPlace)) →
    AreAnswers problem before answers → AreAnswers problem after answers
answers_more problem before after more answers are = record {
  each = λ know found here there. record {
    each = λ history further knows less.
        let old = (are.each know found here there).each history further knows less in (old.0, named_more old.0 found old.1, old.2);
  };
}
  where
    named_more : (tree : Option Tree) (place : Option DraftPlace) → NamesFound before tree place → NamesFound after tree place
    named_more None place names = names
    named_more (Some tree) place names = (names.0, names.1, names_more before after more tree names.0 names.2)

module _ {A : Type 0} (problem : Setup) (one two : Search A) (first : IsLater problem one two) where
  pub later_trans : (three : Search A) → IsLater problem two three → IsLater problem one three
  later_trans three second = record { good = second.good; more = λ index draft_node there. second.more index draft_node (first.more index draft_node there) }

  -- the same search, with more nodes
  pub later_nodes : (after : List DraftNode) → IsMore two.nodes after →
      IsLater problem one (record { shows = two.shows; nodes = after; table = two.table })
  later_nodes after more =
      later_trans (record { shows = two.shows; nodes = after; table = two.table }) (record {
        good = record { shows = first.good.shows; answers = answers_more problem two.nodes after more _ first.good.answers };
        more = more;
      })

-- ---- who is asked
-- an answer is right if it names what is found by who is asked
answer_for : (problem : Setup) (draft_nodes : List DraftNode) (know : Knowledge) (found : Option DraftPlace) (turn : Turn) → know.round.asked ≡ turn →
    (says : ℕ → List Event → Option Tree → Type 0) →
    ((history : List Event) (more : ℕ) (tree : Option Tree) → KnowsAfter know problem history → NamesFound draft_nodes tree found → says more history tree →
    FindsFor turn (λ further after. Finds more problem further after) problem history tree) →
    Tells problem draft_nodes know found says → IsAnswer problem draft_nodes know found
answer_for problem draft_nodes know found turn asked says step told = record {
  each = λ history more knows less.
      let here = told.each history more knows less in
      let now : asked_now problem history ≡ turn = sym (ap (λ (k : Knowledge). k.round.asked) knows.knowledge) ∙ asked in
      (here.0, here.1, rw now (step history more here.0 knows here.1 here.2));
}

-- the same as `IsAnswer`, if the owner tries these cards in their order
abbrev pub IsTried : Setup → List DraftNode → Knowledge → List ℕ → Option DraftPlace → Type 0
IsTried problem draft_nodes know cards found =
    Tells problem draft_nodes know found (λ more history tree. Tries (λ further after. Finds more problem further after) history cards tree)

module _ (problem : Setup) (draft_nodes : List DraftNode) (know : Knowledge) where
  -- ---- one turn further
  pub after_turn : (next : Knowledge) (event : Event) → Steps problem know event next → (found : Option DraftPlace) →
      IsAnswer problem draft_nodes next found → IsAfter problem draft_nodes know event found
  after_turn next event on found answer = record { each = each }
    where
      each : (history : List Event) (more : ℕ) → KnowsAfter know problem history → turns_ahead know ≤ more →
          (tree : Option Tree) × NamesFound draft_nodes tree found × Finds more problem (event ∷ history) tree
      each history zero knows less = absurd (omega (arith, less, know_falls know next problem event history knows (on history knows)))
      each history (suc more) knows less =
          answer.each (event ∷ history) more (on history knows) (omega (arith, less, know_falls know next problem event history knows (on history knows)))

  -- ---- the deal is done
  pub over_found : know.round.asked ≡ turns.Over → (reached : Bool) →
      ((history : List Event) → KnowsAfter know problem history → (reached ≡ true) ↔ IsReachedBehind problem history) →
      IsAnswer problem draft_nodes know (then_some reached End)
  over_found over true each =
      answer_for problem draft_nodes know (Some End) turns.Over over (λ more history tree. tree ≡ Some Finish)
      (λ history more tree knows names same. inl ((each history knows).0 refl, same))
      (record { each = λ history more knows less. (Some Finish, (End, refl, refl), refl) })
  over_found over false each =
      answer_for problem draft_nodes know None turns.Over over (λ more history tree. tree ≡ None)
      (λ history more tree knows names same. inr (λ all. both_ways false refl ((each history knows).1 all), same))
      (record { each = λ history more knows less. (None, refl, refl) })

  -- ---- the owner
  module _ (asked : know.round.asked ≡ turns.Owner) (found : Option DraftPlace) where
    pub own_go : ((history : List Event) → KnowsAfter know problem history → options problem history ≡ []) →
        IsAfter problem draft_nodes know (Own move.Go) found → IsAnswer problem draft_nodes know found
    own_go none = answer_for problem draft_nodes know found turns.Owner asked _ (λ history more tree knows names finds. rw (none history knows) finds)

    pub own_tried : (cards : List ℕ) → 0 < length cards → ((history : List Event) → KnowsAfter know problem history → cards ≡ options problem history) →
        IsTried problem draft_nodes know cards found → IsAnswer problem draft_nodes know found
    own_tried [] some same = absurd (omega (arith, some))
    own_tried (card ∷ others) some same =
        answer_for problem draft_nodes know found turns.Owner asked _ (λ history more tree knows names tries. rw (← same history knows) tries)

  module _ (cards : List ℕ) (index card : ℕ) (within : index < length cards) (is : card ≡ get_or cards index card) (before : List DraftNode) where
    pub tried_some : IsMore before draft_nodes → (next draft_place : DraftPlace) → IsAfter problem before know (Own (move.Card card)) (Some next) →
        IsPlaceOf draft_nodes (Play card next) draft_place → IsTried problem draft_nodes know (drop index cards) (Some draft_place)
    tried_some more next draft_place told at = rw (drop_more cards index card within, ← is) (record {
      each = λ history further knows less.
          let after = told.each history further knows less in
          let named = some_named before after.0 next after.1 in (
            Some (Plays card named.0),
            (draft_place, refl, (at.0, next, at.1, at.2, names_more before draft_nodes more named.0 next named.2)),
            (Some named.0, rw named.1 at after.2, refl),
          );
    })

    pub tried_next : (found : Option DraftPlace) → IsAfter problem before know (Own (move.Card card)) None →
        IsTried problem draft_nodes know (drop (index + 1) cards) found → IsTried problem draft_nodes know (drop index cards) found
    tried_next found told tried = rw (drop_more cards index card within, ← is) (record {
      each = λ history more knows less.
          let after = told.each history more knows less in
          let later = tried.each history more knows less in
          (later.0, later.1, (None, rw (none_named before after.0 after.1) at after.2, later.2));
    })

  -- ---- the opponent
  -- some branch is lacking
  pub theirs_none : know.round.asked ≡ turns.Opponent → (letter : Letter) → IsBranch problem draft_nodes know letter None →
      IsAnswer problem draft_nodes know None
  theirs_none asked letter =
      answer_for problem draft_nodes know None turns.Opponent asked _
      (λ history more tree knows names branch.
      let none = none_named draft_nodes tree names in
      inl (elim branch [ inl found ↦ (letter, found.0, rw none at found.1) | inr not ↦ absurd (cc (none, not.1)) ], none))

  module _ (letter : Letter) (can : Bool)
      (exact : (history : List Event) → KnowsAfter know problem history → (can ≡ true) ↔ CanShow problem history letter) where
    pub branch_end : can ≡ false → IsBranch problem draft_nodes know letter (Some End)
    branch_end e = record {
      each = λ history more knows less. (Some Finish, (End, refl, refl), inr (λ shown. both_ways can e ((exact history knows).1 shown), refl));
    }

    pub branch_after : can ≡ true → (found : Option DraftPlace) → IsAfter problem draft_nodes know (Theirs letter) found →
        IsBranch problem draft_nodes know letter found
    branch_after e found told = record {
      each = λ history more knows less.
          let after = told.each history more knows less in (after.0, after.1, inl ((exact history knows).0 e, after.2));
    }

-- the branches of some letters are named, in the order of the letters
abbrev pub AreBranches : Setup → List DraftNode → Knowledge → List Letter → List DraftPlace → Type 0
AreBranches problem draft_nodes know shown draft_places =
    (history : List Event) (more : ℕ) → KnowsAfter know problem history → turns_ahead know ≤ more →
    (trees : List Tree) × AllZip (Names draft_nodes) trees draft_places
    × AllZip (BranchFinds (λ further after. Finds more problem further after) problem history) shown trees

-- one more at the end of two lists
pub zip_push : {X Y : Type 0} (P R : X → Y → Type 0) → ((x : X) (y : Y) → P x y → R x y) → (xs : List X) (ys : List Y) (x : X) (y : Y) → AllZip P xs ys →
    R x y → AllZip R (xs ++ x ∷ []) (ys ++ y ∷ [])
zip_push P R map [] [] x y all last = (last, tt)
zip_push P R map (a ∷ xs) (b ∷ ys) x y all last = (map a b all.0, zip_push P R map xs ys x y all.1 last)
zip_push P R map xs ys x y all last = absurd all

-- one branch more
pub branches_more : (problem : Setup) (before after : List DraftNode) → IsMore before after → (know : Knowledge) (letter : Letter) (shown : List Letter)
    (draft_places : List DraftPlace) (next : DraftPlace) → AreBranches problem before know shown draft_places →
    IsBranch problem after know letter (Some next) → AreBranches problem after know (shown ++ letter ∷ []) (draft_places ++ next ∷ [])
branches_more problem before after later know letter shown draft_places next branches branch history more knows less =
    let old = branches history more knows less in
    let here = branch.each history more knows less in
    let named = some_named after here.0 next here.1 in (
      old.0 ++ named.0 ∷ [],
      zip_push (Names before) (Names after) (names_more before after later) old.0 draft_places named.0 next old.1 named.2,
      zip_push (BranchFinds (finds more) problem history) (BranchFinds (finds more) problem history) (λ other tree is. is) shown old.0 letter named.0 old.2
          (elim here.2 [ inl found ↦ inl (found.0, rw named.1 at found.1) | inr not ↦ inr (not.0, cc (named.1, not.1)) ]),
    )
  where
    finds : ℕ → Found
    finds bound further tree = Finds bound problem further tree

module _ (problem : Setup) (draft_nodes : List DraftNode) (know : Knowledge) (draft_places now : List DraftPlace) (same : now ≡ draft_places)
    (branches : AreBranches problem draft_nodes know letters draft_places) where
  -- the branches name trees, one for each letter
  pub branches_named : IsHere problem know → (trees : List Tree) × AllZip (Names draft_nodes) trees now
  branches_named here =
      let all = branches here.0 (turns_ahead know) here.1 (omega arith) in
      (all.0, rw same all.1)

  pub theirs_some : (after : List DraftNode) (draft_place : DraftPlace) → know.round.asked ≡ turns.Opponent →
      ((trees : List Tree) → AllZip (Names draft_nodes) trees now → Names after (joined_tree trees) draft_place) →
      IsAnswer problem after know (Some draft_place)
  theirs_some after draft_place asked names =
      answer_for problem after know (Some draft_place) turns.Opponent asked
      (λ more history tree. (trees : List Tree) × AllZip (BranchFinds (λ further other. Finds more problem further other) problem history) letters trees
      × (tree ≡ Some (joined_tree trees)))
      (λ history more tree knows names found. inr found) (record {
        each = λ history more knows less.
            let all = branches history more knows less in
            (Some (joined_tree all.0), (draft_place, refl, names all.0 (rw same all.1)), (all.0, all.2, refl));
      })

-- ---- answers
pub ok_map : {T E : Type 0} (result : Result T E) (P Q : T → Type 0) → ((value : T) → P value → Q value) → IfOk result P → IfOk result Q
ok_map (Ok value) P Q step ok = step value ok
ok_map (Err error) P Q step ok = tt

-- ---- the table
pub answers_kept : (problem : Setup) (draft_nodes : List DraftNode) (know copy : Knowledge) (found : Option DraftPlace)
    (before after : Knowledge → Option (Option DraftPlace)) → copy ≡ know → IsHere problem know → IsAnswer problem draft_nodes know found →
    AreAnswers problem draft_nodes before →
    ((other : Knowledge) → (after other ≡ before other) ⊎ ((knows_compared.ghosts.eq copy other ≡ true) × (after other ≡ Some found))) →
    AreAnswers problem draft_nodes after
answers_kept problem draft_nodes know copy found before after same here answer answers kept = record {
  each = λ other draft_place there is.
      elim (kept other) [
        | inl old ↦ answers.each other draft_place there (sym old ∙ is)
        | inr new ↦
            let know_is = (same_knows know other (known know here) (known other there)).0 (rw same at new.0) in
            let found_is : found ≡ draft_place = cc (new.1) in rw (← know_is, ← found_is) answer
      ];
}
  where
    known : (k : Knowledge) → IsHere problem k → IsKnown k
    known k there = record { problem = problem; history = there.0; knows = there.1 }

-- a put changes the table only at its key, and a refused put does not change it
pub kept_by : {T E : Type 0} (result : Result T E) (old new : Knowledge → Option (Option DraftPlace)) (know : Knowledge) (found : Option DraftPlace)
    (U W : Type 0) → (U → (other : Knowledge) → new other ≡ cond (knows_compared.ghosts.eq know other) (Some found) (old other)) →
    (W → (other : Knowledge) → new other ≡ old other) → OnOk result U → OnErr result W → (other : Knowledge) →
    (new other ≡ old other) ⊎ ((knows_compared.ghosts.eq know other ≡ true) × (new other ≡ Some found))
kept_by (Ok value) old new know found U W put same ok err other =
    elim (cases_Bool (knows_compared.ghosts.eq know other)) [ inl is ↦ inr (is, rw is at (put ok other)) | inr is ↦ inl (rw is at (put ok other)) ]
kept_by (Err error) old new know found U W put same ok err other = inl (same err other)
