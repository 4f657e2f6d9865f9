-- The code's walk over the acts of a game, which judges each act by the round and the cards that are left.
use Rattle.std.proofs.Common.{◌≡◌, ℕ, ◌+◌, ◌<◌, ◌≤◌, Bool, List, ◌∷◌, length, get_or, take, reverse, Option, Some, None, sym, ap, subst, ◌∙◌}
use Rattle.std.specs.Prelude.{slice_get, is_some}
use Rattle.std.proofs.lemmas.List.{take_all}
use Rattle.crib_cards.specs.Letters.{letter_of}
use Rattle.crib_cards.specs.Start.{pone_of}
use Rattle.crib_cards.specs.declared.sides.Dealt.{Dealt}
use Rattle.crib_cards.specs.declared.moves.Move.{Move}
use Rattle.crib_cards.specs.declared.moves.Act.{Act}
use Rattle.crib_play.specs.Record.{count_of}
use Rattle.crib_play.specs.Filled.{points_added}
use Rattle.crib_play.specs.Standing.{StandsFor}
use Rattle.crib_play.specs.Legal.{IsDealt, letters_of}
use Rattle.crib_play.specs.History.{moves_of}
use Rattle.crib_problem.specs.Setup.{Setup, start_of, hands_of}
use Rattle.crib_game.specs.declared.fault.GameFault.{GameFault}
use Rattle.crib_game.specs.declared.replaying.judging.JudgedGame.{JudgedGame}
use Rattle.crib_game.specs.declared.replaying.remark.Remark.{Remark}
use Rattle.crib_game.specs.declared.replaying.report.Row.{Row}
use Rattle.crib_game.specs.Replay.{Judge, next_played, acts_fault, count_with}
use Rattle.crib_game.specs.Private.Judging.{held_cards_of, held_cards_after, fault_at, MayShowAt}
use Rattle.crib_game.specs.Private.Walking.{CanBeJudged, IsJudged, record_after, IsNext}
use Rattle.crib_game.proofs.ActFaults.{acts_filled}
use Rattle.crib_game.proofs.JudgeLemmas.{AreCards, judged_fault, judged_right, judged_visible, judged_shows, judged_next, reverse_more, fault_all}
use Rattle.crib_game.proofs.JudgeLemmas.{length_before}
use Rattle.crib_problem.proofs.StartLemmas.{hands_dealt}
use Rattle.crib_game.proofs.GameFaults.{deal_is, hands_are}
use Rattle.crib_game.proofs.Reports.{row_is}

-- the acts before an index
abbrev pub acts_before : List Act → ℕ → List Act
acts_before acts i = reverse (take i acts)

-- the filled record of the acts before an index
abbrev pub record_before : Setup → List Act → ℕ → List Move
record_before problem acts i = record_after problem (acts_before acts i)

pub one_more : (acts : List Act) (i : ℕ) (act : Act) → i < length acts → act ≡ get_or acts i act → act ∷ acts_before acts i ≡ acts_before acts (i + 1)
one_more acts i act inside at = ap (λ (x : Act). x ∷ acts_before acts i) at ∙ sym (reverse_more acts i act inside)

module _ {problem : Setup} {dealt : Dealt} (can : CanBeJudged problem dealt) where
  are_cards : AreCards (hands_of problem dealt)
  are_cards = hands_are problem dealt can.setup can.six

  are_dealt : IsDealt (hands_of problem dealt)
  are_dealt = hands_dealt problem can.setup dealt (deal_is problem dealt can.six can.unseen)

-- the walk has taken the acts before an index, none of which is refused, and has counted them
pub record WalksTo (judge : Judge) (problem : Setup) (dealt : Dealt) (acts : List Act) (walk : JudgedGame) (i number : ℕ) : Type 0 where
  pub judged : IsJudged judge (start_of problem) (hands_of problem dealt) walk (acts_before acts i)
  pub counted : number ≡ i

module _ {judge : Judge} {problem : Setup} {dealt : Dealt} {acts : List Act} {walk : JudgedGame} {i number : ℕ}
    (walks : WalksTo judge problem dealt acts walk i number) where
  -- all acts are taken
  pub walk_ends : length acts ≤ i → IsJudged judge (start_of problem) (hands_of problem dealt) walk (reverse acts)
  walk_ends all =
      let J : List Act → Type 0 = λ xs. IsJudged judge (start_of problem) (hands_of problem dealt) walk xs in
      subst J (ap reverse (take_all i acts all)) walks.judged

  module _ (can : CanBeJudged problem dealt) (inside : i < length acts) where
    pub walk_played : slice_get problem.played number ≡ next_played problem.played (pone_of (start_of problem)) (record_before problem acts i)
    walk_played =
        let start = start_of problem in
        let before = acts_before acts i in
        let visible = acts_filled judge start (hands_of problem dealt) before walks.judged.stands.started (are_dealt can) walks.judged.clear in
        ap (slice_get problem.played) (walks.counted ∙ sym (ap length visible ∙ length_before acts i inside))

    -- the next act is judged
    module _ {act : Act} {remark : Remark} {found : Option GameFault} (at : act ≡ get_or acts i act)
        (remarked : remark ≡ judge act (record_before problem acts i))
        (judged : found ≡ fault_at remark walk.round (held_cards_of walk.held act.side) act (number + 1)) where
      here : fault_at (judge act (record_before problem acts i)) walk.round (held_cards_of walk.held act.side) act (length (acts_before acts i) + 1) ≡ found
      here =
          (λ j. fault_at (sym remarked j) walk.round (held_cards_of walk.held act.side) act ((length_before acts i inside ∙ sym walks.counted) j + 1))
          ∙ sym judged

      -- the walk stops at an act that is refused
      pub walk_stops : {fault : GameFault} → found ≡ Some fault → acts_fault judge (start_of problem) (hands_of problem dealt) (reverse acts) ≡ Some fault
      walk_stops {fault} e =
          fault_all judge (start_of problem) (hands_of problem dealt) acts i act fault inside at
          (judged_fault (are_cards can) walks.judged act (Some fault) (here ∙ e))

      module _ (fine : found ≡ None) where
        pub walk_shows : MayShowAt act.what walk.round
        walk_shows = judged_shows (are_cards can) walks.judged act (here ∙ fine) (are_dealt can)

        -- an act that is not refused is taken
        module _ (new : JudgedGame) (stands : StandsFor new.round (start_of problem) (letter_of act.what ∷ letters_of (moves_of (acts_before acts i)))) where
          pub walk_goes_on : new.held ≡ held_cards_after walk.held act.what → WalksTo judge problem dealt acts new (i + 1) (number + 1)
          walk_goes_on held =
              let J : List Act → Type 0 = λ xs. IsJudged judge (start_of problem) (hands_of problem dealt) new xs in
              record {
                judged = subst J (one_more acts i act inside at) (judged_next (are_cards can) walks.judged act (here ∙ fine) new stands held);
                counted = ap (λ (n : ℕ). n + 1) walks.counted;
              }

          pub walk_next : {row : Row} {is_played : Bool} → is_played ≡ is_some (slice_get problem.played number) → row.act ≡ act →
              row.count ≡ count_with (count_of walk.round.pile) act.what →
              row.points ≡ points_added (start_of problem) (letter_of act.what) (letters_of (moves_of (acts_before acts i))) →
              row.scores ≡ new.round.scores → IsNext problem (acts_before acts i) act is_played row
          walk_next {row} played is count points scores = record {
            side = (judged_right (are_cards can) walks.judged act (here ∙ fine)).side;
            visible = judged_visible (are_cards can) walks.judged act (here ∙ fine) (are_dealt can);
            played = played ∙ ap is_some walk_played;
            row_is = row_is row (start_of problem) walk.round new.round act (acts_before acts i) walks.judged.stands stands is count points scores;
          }
