-- A sure player after a card of the owner, or after each act that can come next, and before it.
use Rattle.std.proofs.Common.{◌≡◌, ◌⊎◌, ℕ, true, false, List, [], ◌∷◌, length, Option, Some, None, refl, sym, ap, subst, ◌∙◌, inl, inr, arith}
use Rattle.std.specs.List.{list_any}
use Rattle.std.proofs.lemmas.Bool.{cases_Bool, cases_lt, both_ways, and_parts}
use Rattle.std.proofs.lemmas.List.{length-reverse}
use Rattle.std.proofs.lemmas.Option.{same_Some}
use Rattle.crib_cards.specs.Sets.{has}
use Rattle.crib_cards.specs.Start.{Start, pone_of}
use Rattle.crib_cards.specs.declared.sides.Side.{Side}
use Rattle.crib_cards.specs.declared.sides.Side.TheVariants.{Owner, Opponent}
use Rattle.crib_cards.specs.declared.sides.Dealt.{Dealt}
use Rattle.crib_cards.specs.declared.moves.Move.{Move}
use Rattle.crib_cards.specs.declared.moves.Move.TheVariants as move
use Rattle.crib_cards.specs.declared.moves.Act.{Act}
use Rattle.crib_cards.proofs.Members.{any_found, any_from, all_from}
use Rattle.crib_play.specs.Record.{mover}
use Rattle.crib_play.specs.Score.{asked_after}
use Rattle.crib_play.specs.Legal.{letters_of, cards_left, fits, IsLegal, MayTake}
use Rattle.crib_play.specs.Filled.{filled_record}
use Rattle.crib_play.specs.History.{acts_of, filled_moves, moves_of}
use Rattle.crib_play.specs.declared.turns.Turn.TheVariants as turns
use Rattle.crib_play.proofs.FilledRecords.{letters_filled}
use Rattle.crib_play.proofs.RecordsReached.{asked_mover}
use Rattle.crib_problem.specs.Setup.{Setup, IsSetup, IsMove, start_of, hands_of, opening_basis_of, played_back, IsDealOf}
use Rattle.crib_problem.specs.Played.{act_refusal, cards_by}
use Rattle.crib_problem.proofs.StartLemmas.{started, hands_dealt}
use Rattle.crib_problem.proofs.Setups.{AllMoves, without_opening}
use Rattle.crib_problem.proofs.MadeProblems.{with_one_more}
use Rattle.crib_problem.proofs.HonestTurns.{moves_are}
use Rattle.crib_know.specs.Knowledge.{played_events, asked_now}
use Rattle.crib_know.proofs.HonestOpenings.{allowed_proved}
use Rattle.crib_know.proofs.OpeningLawProofs.{letters_same}
use Rattle.crib_game.specs.Following.{is_playable}
use Rattle.crib_players.specs.Players.{Player, own_card, AreBy, IsPlayedBy, IsSurePlayer}
use Rattle.crib_players.specs.Refutations.{may_play}
use Rattle.crib_players.specs.Laws.{longer, CanComeNext, SureCardLaw, SureTurnLaw}
use Rattle.crib_players.proofs.Longer.{back, long_next, rest_all}
use Rattle.crib_players.proofs.Refuted.{by_few, left_may_play}
use Rattle.crib_players.proofs.LastTurns.{LastTurn, last_turn, before_card, opponents_held}
use Rattle.crib_players.proofs.SurePlayers.{Loss, can_allowed, is_over_with, none_lost, playable_is, sure_before, whole}

module _ (problem : Setup) (setup : IsSetup problem) where
  abbrev start : Start
  start = start_of problem

  abbrev opening : List Act
  opening = played_back problem

  last_come : (act : Act) (can : CanComeNext problem act) → LastTurn start (hands_of problem can.dealt) act opening
  last_come act can =
      last_turn start (hands_of problem can.dealt) (started problem setup) (hands_dealt problem setup can.dealt can.deal.deal) can.played [] opening act
      can.legal can.shows

  -- ---- where the owner is at a loss after the opening, a card of the owner may be played, and the stated one may not
  opens : (dealt : Dealt) (played : List Move) (stated : Option ℕ) → IsDealOf problem dealt → Loss start (hands_of problem dealt) played stated →
      IsLegal start (hands_of problem dealt) played → acts_of (pone_of start) played ≡ opening →
      (card : ℕ) × (may_play problem opening card ≡ true) × (played ≡ filled_moves start (moves_of opening))
  opens dealt played stated deal lost legal shows =
      let hands = hands_of problem dealt in
      let found = any_found (fits played) (cards_left hands Owner played) lost.some in
      let filled = before_card start hands (started problem setup) (hands_dealt problem setup dealt deal.deal) played opening found.0 legal shows
      lost.going lost.who found.1 found.2 in (
        found.0,
        left_may_play problem hands opening found.0 refl
            (subst (λ (past : List Move). has (cards_left hands Owner past) found.0 ≡ true) filled found.1)
            (subst (λ (past : List Move). fits past found.0 ≡ true) filled found.2),
        filled,
      )

  -- so the choice of a card that may be played leaves nobody at a loss
  no_loss : (dealt : Dealt) (played : List Move) (card : ℕ) → may_play problem opening card ≡ true → played ≡ filled_moves start (moves_of opening) →
      Loss start (hands_of problem dealt) played (Some card) → ⊥
  no_loss dealt played card may filled lost =
      both_ways (is_playable (hands_of problem dealt) played (Some card)) lost.none
      (ap (λ (past : List Move). is_playable (hands_of problem dealt) past (Some card)) filled ∙ playable_is problem dealt opening card ∙ may)

  -- ---- after one card of the owner
  module _ (card : ℕ) (player : Player) (asked : asked_now problem (played_events problem) ≡ turns.Owner) (may : may_play problem opening card ≡ true)
      (sure : IsSurePlayer (longer problem (own_card card)) player) where
    owner_moves : mover (pone_of start) (letters_of (filled_moves start (moves_of opening))) ≡ Owner
    owner_moves =
        (asked_mover start (letters_of (filled_moves start (moves_of opening))) Owner
        (ap (asked_after start) (letters_filled start (moves_of opening)
        ∙ ap (filled_record start) (sym (letters_same opening))) ∙ asked)).1

    -- the next act is a card of the owner, as a card of the owner may be played
    owners : (act : Act) (can : CanComeNext problem act) → (other : ℕ) × (act ≡ own_card other)
    owners act can = by_turn last.turn last.is who last.legal.1.may_take
      where
        last : LastTurn start (hands_of problem can.dealt) act opening
        last = last_come act can

        who : mover (pone_of start) (letters_of last.past) ≡ Owner
        who = ap (λ (past : List Move). mover (pone_of start) (letters_of past)) last.filled ∙ owner_moves

        playable : is_playable (hands_of problem can.dealt) last.past (Some card) ≡ true
        playable = ap (λ (past : List Move). is_playable (hands_of problem can.dealt) past (Some card)) last.filled
            ∙ playable_is problem can.dealt opening card ∙ may

        by_turn : (turn : Move) → record { side = mover (pone_of start) (letters_of last.past); what = turn } ≡ act →
            mover (pone_of start) (letters_of last.past) ≡ Owner →
            MayTake (hands_of problem can.dealt) (mover (pone_of start) (letters_of last.past)) turn last.past → (other : ℕ) × (act ≡ own_card other)
        by_turn (move.Card other) same who take =
            let by_side : Side → Act = λ side. record { side = side; what = move.Card other } in (other, sym same ∙ ap by_side who)
        by_turn move.Go same who take =
            let none : list_any (fits last.past) (cards_left (hands_of problem can.dealt) Owner last.past) ≡ false =
            subst (λ (side : Side). MayTake (hands_of problem can.dealt) side move.Go last.past) who take in
            let both = and_parts (has (cards_left (hands_of problem can.dealt) Owner last.past) card) (fits last.past card) playable in
            absurd (both_ways (list_any (fits last.past) (cards_left (hands_of problem can.dealt) Owner last.past)) none
            (any_from (fits last.past) (cards_left (hands_of problem can.dealt) Owner last.past) card both.0 both.1))

    after_card : (act : Act) → CanComeNext problem act → ((other : ℕ) → act ≡ own_card other → Some card ≡ Some other) →
        IsSurePlayer (longer problem act) player
    after_card act can chosen =
        let own = owners act can in
        let same : own_card card ≡ act = ap own_card (same_Some card own.0 (chosen own.0 own.1)) ∙ sym own.1 in
        subst (λ (act : Act). IsSurePlayer (longer problem act) player) same sure

    pub one_card : (other : Player) × IsSurePlayer problem other
    one_card =
        sure_before problem setup (Some card) (λ act. player)
        (λ dealt played deal lost legal shows. no_loss dealt played card may (opens dealt played (Some card) deal lost legal shows).2 lost)
        after_card

  -- ---- after each act that can come next
  module _ (after : (act : Act) → CanComeNext problem act → (player : Player) × IsSurePlayer (longer problem act) player) where
    -- some card may be played, or none
    abbrev IsOpen : Type 0
    IsOpen = (list_any (may_play problem opening) problem.hold ≡ true) ⊎ (list_any (may_play problem opening) problem.hold ≡ false)

    abbrev choice_by : IsOpen → Option ℕ
    choice_by (inl some) = Some (any_found (may_play problem opening) problem.hold some).0
    choice_by (inr none) = None

    no_loss_by : (is : IsOpen) (dealt : Dealt) (played : List Move) → IsDealOf problem dealt → Loss start (hands_of problem dealt) played (choice_by is) →
        IsLegal start (hands_of problem dealt) played → acts_of (pone_of start) played ≡ opening → ⊥
    no_loss_by (inl some) dealt played deal lost legal shows =
        let found = any_found (may_play problem opening) problem.hold some in
        no_loss dealt played found.0 found.2 (opens dealt played (Some found.0) deal lost legal shows).2 lost
    no_loss_by (inr none) dealt played deal lost legal shows =
        let open_to = opens dealt played None deal lost legal shows in
        let held = (and_parts (has problem.hold open_to.0) _ (and_parts _ _ open_to.1).0).0 in
        both_ways (list_any (may_play problem opening) problem.hold) none
        (any_from (may_play problem opening) problem.hold open_to.0 held open_to.1)

    -- ---- whether an act can come next, if the deal is not done after it
    module _ (act : Act) where
      abbrev next : Setup
      next = longer problem act

      abbrev CanCome : Type 0
      CanCome = CanComeNext problem act ⊎ (CanComeNext problem act → is_over_with problem act ≡ true)

      -- an act that is not refused is one of a legal record
      not_refused : IsMove act.what → act_refusal (opening_basis_of problem) opening act ≡ None → CanComeNext problem act
      not_refused is may =
          let setup_next = with_one_more problem act setup is may in
          let honest = (allowed_proved next (without_opening next setup_next) tt).0 setup_next in
          let one = honest.1 in
          let shows = one.shows ∙ back problem act in
          record {
            dealt = honest.0;
            played = one.played;
            deal = record {
              deal = one.deal;
              fixed = rest_all (has honest.0.hold) act.side act.what opening
                  (all_from (has honest.0.hold) (cards_by Opponent (act ∷ opening)) (λ card h.
                  opponents_held start (hands_of problem honest.0) one.played one.legal card
                  (subst (λ (acts : List Act). has (cards_by Opponent acts) card ≡ true) (sym shows) h)));
            };
            legal = one.legal;
            shows = shows;
          }

      -- an act that can come next has a card of the pack
      can_move : CanComeNext problem act → IsMove act.what
      can_move can = (subst AllMoves can.shows (moves_are problem setup can.dealt can.deal.deal can.played can.legal)).0

      move_or_not : (what : Move) → IsMove what ⊎ (IsMove what → ⊥)
      move_or_not (move.Card card) = elim (cases_lt card 52) [ inl less ↦ inl less | inr more ↦ inr (λ is. omega (arith, more, is)) ]
      move_or_not move.Go = inl tt

      none_or_not : (refused : Option ℕ) → (refused ≡ None) ⊎ (refused ≡ None → ⊥)
      none_or_not None = inl refl
      none_or_not (Some number) = inr (λ same. cc)

      can_come : CanCome
      can_come = elim (cases_Bool (is_over_with problem act)) [
        | inl over ↦ inr (λ can. over)
        | inr going ↦ elim (move_or_not act.what) [
          | inl is ↦ elim (none_or_not (act_refusal (opening_basis_of problem) opening act)) [
            | inl none ↦ inl (not_refused is none)
            | inr some ↦ inr (λ can. absurd (some (can_allowed problem setup act can going)))
          ]
          | inr other ↦ inr (λ can. absurd (other (can_move can)))
        ]
      ]

      abbrev player_by : CanCome → Player
      player_by (inl can) = (after act can).0
      player_by (inr over) = λ acts. None

      -- after an act that ends the deal, one player is as sure as another
      module _ (over : is_over_with problem act ≡ true) (one other : Player) (sure : IsSurePlayer next one) where
        played_by_one : (dealt : Dealt) (played : List Move) → IsPlayedBy next other dealt played → IsPlayedBy next one dealt played
        played_by_one dealt played is = record {
          deal = is.deal;
          legal = is.legal;
          begins = is.begins;
          by = subst (λ (acts : List Act). AreBy (length next.played) one acts) (sym (whole problem setup act over is))
              (by_few (length next.played) one (act ∷ opening) (
              let long = long_next problem act in let same = length-reverse problem.played in omega (arith, long, same)
              ));
        }

        over_sure : IsSurePlayer next other
        over_sure = record {
          never_at_loss = λ dealt played is. none_lost problem setup act over is;
          reached = λ dealt played is done. sure.reached dealt played (played_by_one dealt played is) done;
        }

      sure_by : (is : CanCome) → CanComeNext problem act → IsSurePlayer next (player_by is)
      sure_by (inl can) come = (after act can).1
      sure_by (inr over) come = over_sure (over come) (after act come).0 (λ acts. None) (after act come).1

    pub each_turn : (other : Player) × IsSurePlayer problem other
    each_turn =
        let is : IsOpen = cases_Bool (list_any (may_play problem opening) problem.hold) in
        sure_before problem setup (choice_by is) (λ act. player_by act (can_come act)) (no_loss_by is) (λ act can chosen. sure_by act (can_come act) can)

pub sure_card : SureCardLaw
sure_card problem card player setup asked may sure = one_card problem setup card player asked may sure

pub sure_turn : SureTurnLaw
sure_turn problem setup after = each_turn problem setup after
