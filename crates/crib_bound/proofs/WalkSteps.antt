-- What the walk may conclude at a position from what it found after it.
use Rattle.std.proofs.Common.{◌≡◌, ◌⊎◌, ◌↔◌, ℕ, ◌+◌, ◌-◌, ◌*◌, ◌/◌, ◌<◌, ◌≤◌, Bool, true, false, not, ◌&&◌, cond, List, [], ◌∷◌}
use Rattle.std.proofs.Common.{length, get_or, map, suc, ◌++◌, refl, sym, ap, ◌∙◌, inl, inr, arith}
use Rattle.std.specs.List.{All, list_any}
use Rattle.std.proofs.lemmas.Bool.{both_ways, and_parts, and_from, false_from_ne_true, le-leb, leb-true, not-true, true_from_ne_false}
use Rattle.std.proofs.lemmas.List.{append_cancel_right}
use Rattle.crib_cards.specs.Cards.{card_value, rank_of}
use Rattle.crib_cards.specs.Sets.{has}
use Rattle.crib_cards.specs.declared.letters.Letter.{Letter}
use Rattle.crib_cards.specs.declared.sides.Dealt.{Dealt}
use Rattle.crib_cards.specs.declared.moves.Move.TheVariants as move
use Rattle.crib_cards.specs.declared.moves.Move.{Move}
use Rattle.crib_cards.proofs.Members.{any_found, has_cases, has_there}
use Rattle.crib_play.specs.declared.turns.Turn.TheVariants as turns
use Rattle.crib_play.specs.Fitting.{fits_at}
use Rattle.crib_play.specs.Record.{count_of}
use Rattle.crib_play.specs.History.{Event, Own, Theirs, event_of}
use Rattle.crib_problem.specs.Setup.{Setup}
use Rattle.crib_show.specs.Outcome.{outcome_of}
use Rattle.crib_show.specs.declared.demands.Demand.{Demand}
use Rattle.crib_know.specs.Knowledge.{Knowledge, played_events}
use Rattle.crib_know.specs.Hidden.{KnowsAfter}
use Rattle.crib_know.specs.Private.Ahead.{turns_ahead}
use Rattle.crib_know.proofs.CallLemmas.{passing_same}
use Rattle.crib_know.proofs.TurnsAhead.{know_falls}
use Rattle.crib_game.specs.Replay.{outcome_for}
use Rattle.crib_sure.specs.Shows.{IsDemandAtEnd, full_behind, meets}
use Rattle.crib_beaten.specs.Beaten.{counts_of, may_show}
use Rattle.crib_bound.specs.Worth.{EachLeft, IsStrategyIf, MayPlayAfter}
use Rattle.crib_bound.specs.Worth.IsWorthIf.{Nothing, Missed, Barred, Parts, Turn, Choice}
use Rattle.crib_bound.specs.declared.path.Fixed.{Fixed}
use Rattle.crib_bound.specs.declared.walk.Bound.{Bound}
use Rattle.crib_bound.specs.Private.Cases.{IsAllowedAt, IsAllowedBy, IsTrailOf, digit_of}
use Rattle.crib_bound.specs.Private.Walks.{AreAt, AreCounted, AreFewer, AreLowered, AreOpenDeals, IsBoundAfter, IsBoundAt, MayWalk, entry_in, taken_of}
use Rattle.crib_bound.proofs.Amounts.{part_few, sum_less}
use Rattle.crib_bound.proofs.AgreeingDeals.{misses, may_play, may_play_after}
use Rattle.crib_bound.proofs.Letters.{own_agrees, theirs_agrees}
use Rattle.crib_bound.proofs.Taken.{fewer_still, same_amounts, taken_here}
use Rattle.crib_bound.proofs.Worths.{fewer_worth, lower}

-- ---- the end
module _ {bound : Bound} {know : Knowledge} {trail indices : List ℕ} where
  -- nothing is taken
  pub none_bound : {amounts : List ℕ} → IsBoundAt bound know trail indices amounts amounts 0
  none_bound {amounts} = record {
    fewer = same_amounts;
    worth = λ deals weighed are history knows led. Nothing history (taken_of (entry_in bound) amounts amounts);
  }

  -- the parts of the deals that miss the goal
  pub end_bound : {before after : List ℕ} (demand : Demand) (value : ℕ) → know.round.asked ≡ turns.Over →
      AreCounted bound demand indices before after value → IsDemandAtEnd bound.problem.now know demand → IsBoundAt bound know trail indices before after value
  end_bound {before} {after} demand value over counted decides = record {
    fewer = counted.fewer;
    worth = λ deals weighed are history knows led.
        let missing : Dealt → ℕ = λ dealt. cond (not (meets bound.problem.now demand dealt)) (taken_of (entry_in bound) before after dealt) 0 in
        lower (counted.few deals weighed) (λ dealt h. part_few (not (meets bound.problem.now demand dealt)) (taken_of (entry_in bound) before after dealt))
        (Missed history missing (λ dealt h some.
        let is = part_some (not (meets bound.problem.now demand dealt)) (taken_of (entry_in bound) before after dealt) some in
        let agrees = (passing_same know bound.problem.now history knows dealt).1 (are.passing dealt h (taken_here (entry_in bound) counted.fewer dealt is.1)) in
        misses knows agrees over (λ reached.
        both_ways (meets bound.problem.now demand dealt) (not-true (meets bound.problem.now demand dealt) is.0)
        ((decides history dealt knows agrees).1 (same_full history dealt knows ∙ reached)))));
  }
    where
      part_some : (kept : Bool) (parts : ℕ) → 1 ≤ cond kept parts 0 → (kept ≡ true) × (1 ≤ parts)
      part_some true parts some = (refl, some)
      part_some false parts some = absurd (omega (arith, some))

      same_full : (history : List Event) (dealt : Dealt) → KnowsAfter know bound.problem.now history →
          outcome_for bound.problem.now dealt know.round.scores ≡ outcome_of (full_behind bound.problem.now history dealt)
      same_full history dealt knows = λ i. outcome_for bound.problem.now dealt ((knows.knowledge i).round.scores)

-- ---- a move of the owner
-- what is fixed for a history is fixed for its trail
allowed_same : (problem : Setup) (fixed : List Fixed) (trail : List ℕ) (history : List Event) → IsTrailOf problem trail history → (card : ℕ) →
    IsAllowedBy problem fixed history card ↔ IsAllowedAt fixed trail (rank_of card)
allowed_same problem fixed trail history led card = (
  λ by one h is. by one h (led ∙ ap (λ (digits : List ℕ). digits ++ map digit_of (played_events problem)) (sym is)),
  λ at one h there. at one h (append_cancel_right one.trail.items trail (map digit_of (played_events problem)) (sym there ∙ led)),
)

-- the deals at a position after it
at_after : {at : Dealt → ℕ} {problem : Setup} {know next : Knowledge} {indices : List ℕ} (what : Move) {deals : List Dealt} {history : List Event} →
    know.round.asked ≡ turns.Owner → KnowsAfter know problem history → KnowsAfter next problem (Own what ∷ history) → AreAt at problem know deals indices →
    AreAt at problem next deals indices
at_after {problem} {know} {next} what {deals} {history} asked knows after are = record {
  passing = λ dealt h here.
      (passing_same next problem (Own what ∷ history) after dealt).0 (own_agrees knows dealt
      ((passing_same know problem history knows dealt).1 (are.passing dealt h here)) what after asked);
}

may_left : (bound : Bound) {know : Knowledge} {indices before after : List ℕ} {deals : List Dealt} (history : List Event) (amounts : Dealt → ℕ) →
    know.round.asked ≡ turns.Owner → AreFewer indices before after → ((dealt : Dealt) → amounts dealt ≤ taken_of (entry_in bound) before after dealt) →
    KnowsAfter know bound.problem.now history → AreAt (entry_in bound) bound.problem.now know deals indices →
    EachLeft deals amounts (MayPlayAfter event_of bound.problem.now history (may_play know))
may_left bound {know} history amounts asked fewer few knows are dealt h more =
    may_play_after knows
    ((passing_same know bound.problem.now history knows dealt).1 (are.passing dealt h
    (taken_here (entry_in bound) fewer dealt (omega (arith, more, few dealt))))) asked

module _ {bound : Bound} {know : Knowledge} {trail indices before after : List ℕ} where
  pub own_after : {next : Knowledge} {value : ℕ} (what : Move) → know.round.asked ≡ turns.Owner →
      ((other : Setup) (history : List Event) → KnowsAfter know other history → KnowsAfter next other (Own what ∷ history)) →
      IsBoundAt bound next (digit_of (Own what) ∷ trail) indices before after value → IsBoundAfter bound know (Own what) trail indices before after value
  own_after {next} {value} what asked goes there = record {
    fewer = there.fewer;
    worth = λ deals weighed are history knows led.
        let then_knows = goes bound.problem.now history knows in
        there.worth deals weighed (at_after what asked knows then_knows are) (Own what ∷ history) then_knows (ap (◌∷◌ (digit_of (Own what))) led);
  }

  -- a go
  pub go_bound : {value : ℕ} → IsBoundAfter bound know (Own move.Go) trail indices before after value → IsBoundAt bound know trail indices before after value
  go_bound {value} there = record {
    fewer = there.fewer;
    worth = λ deals weighed are history knows led.
        Turn history (taken_of (entry_in bound) before after) value (Own move.Go) (λ card is. absurd (let go : move.Go ≡ move.Card card = cc in cc))
        (there.worth deals weighed are history knows led);
  }

  -- the owner's turn, at which some card may be played
  module _ (asked : know.round.asked ≡ turns.Owner) (some : ℕ) (can : may_play know some ≡ true) where
    -- each allowed card of the owner
    pub own_bound : {value : ℕ} → IsAllowedAt bound.fixed.now trail (rank_of some) →
        ((card : ℕ) → may_play know card ≡ true → IsAllowedAt bound.fixed.now trail (rank_of card) →
        IsBoundAfter bound know (Own (move.Card card)) trail indices before after value) → IsBoundAt bound know trail indices before after value
    own_bound {value} allowed each = record {
      fewer = (each some can allowed).fewer;
      worth = λ deals weighed are history knows led.
          Choice history (taken_of (entry_in bound) before after) value (may_play know) some can
          ((allowed_same bound.problem.now bound.fixed.now trail history led some).1 allowed)
          (may_left bound history (taken_of (entry_in bound) before after) asked (each some can allowed).fewer (λ dealt. omega arith) knows are)
          (λ card may allowed_it.
          (each card may ((allowed_same bound.problem.now bound.fixed.now trail history led card).0 allowed_it)).worth deals weighed are history knows led);
    }

    -- no allowed card
    pub barred_bound : {demand : Demand} {value : ℕ} →
        ((card : ℕ) → may_play know card ≡ true → ¬ IsAllowedAt bound.fixed.now trail (rank_of card)) →
        AreCounted bound demand indices before after value → IsBoundAt bound know trail indices before after value
    barred_bound {demand} {value} none counted = record {
      fewer = counted.fewer;
      worth = λ deals weighed are history knows led.
          let kept : Dealt → Bool = λ dealt. not (meets bound.problem.now demand dealt) in
          let missing : Dealt → ℕ = λ dealt. cond (kept dealt) (taken_of (entry_in bound) before after dealt) 0 in
          let few = λ (dealt : Dealt). part_few (kept dealt) (taken_of (entry_in bound) before after dealt) in
          lower (counted.few deals weighed) (λ dealt h. few dealt)
          (Barred history missing (may_play know) some can (may_left bound history missing asked counted.fewer few knows are)
          (λ card may allowed_it. none card may ((allowed_same bound.problem.now bound.fixed.now trail history led card).0 allowed_it)));
    }

-- what is given back and then taken by another lowers the value
pub lowered : {bound : Bound} {know : Knowledge} {event : Event} {trail indices before old new : List ℕ} {value least : ℕ} → AreFewer indices before new →
    AreLowered bound old new value least → IsBoundAfter bound know event trail indices before old value →
    IsBoundAfter bound know event trail indices before new least
lowered {bound} {know} {event} {before = before} {old = old} {new = new} {value = value} {least = least} fewer low there = record {
  fewer = fewer;
  worth = λ deals weighed are history knows led.
      let mid = taken_of (entry_in bound) before low.mid in
      let back = sum_less (λ dealt. taken_of (entry_in bound) before old dealt - taken_of (entry_in bound) before low.mid dealt)
      (taken_of (entry_in bound) low.mid old) deals
      (λ dealt h. omega (arith, low.more (entry_in bound dealt))) in
      let worth = fewer_worth (event ∷ history) (taken_of (entry_in bound) before old) mid value
      (λ dealt h. omega (arith, low.more (entry_in bound dealt)))
      (there.worth deals weighed are history knows led) in
      lower (omega (arith, low.lost deals weighed, back)) (λ dealt h. omega (arith, low.less (entry_in bound dealt))) worth;
}

-- ---- letters
module _ {bound : Bound} {know : Knowledge} {trail indices : List ℕ} where
  pub no_letter : {letter : Letter} {amounts : List ℕ} → IsBoundAfter bound know (Theirs letter) trail indices amounts amounts 0
  no_letter {letter} {amounts} =
      record {
        fewer = same_amounts;
        worth = λ deals weighed are history knows led. Nothing (Theirs letter ∷ history) (taken_of (entry_in bound) amounts amounts);
      }

  pub some_letter : {next : Knowledge} {letter : Letter} {left before after : List ℕ} {value : ℕ} →
      ((other : Setup) (history : List Event) → KnowsAfter know other history → KnowsAfter next other (Theirs letter ∷ history)) →
      ((index : ℕ) → has left index ≡ true → (has indices index && may_show know next letter (counts_of bound.choices.now (index / 16))) ≡ true) →
      IsBoundAt bound next (digit_of (Theirs letter) ∷ trail) left before after value → IsBoundAfter bound know (Theirs letter) trail indices before after value
  some_letter {next} {letter} {left} {before} {after} goes kept there = record {
    fewer = record {
      less = there.fewer.less;
      elsewhere = λ index none. there.fewer.elsewhere index
          (false_from_ne_true (has left index) (λ h. both_ways (has indices index) none (and_parts (has indices index) _ (kept index h)).0));
    };
    worth = λ deals weighed are history knows led.
        let then_knows = goes bound.problem.now history knows in
        there.worth deals weighed (record {
          passing = λ dealt h here.
              let parts = and_parts (has indices (entry_in bound dealt)) _ (kept (entry_in bound dealt) here) in
              (passing_same next bound.problem.now (Theirs letter ∷ history) then_knows dealt).0
              (theirs_agrees knows dealt ((passing_same know bound.problem.now history knows dealt).1 (are.passing dealt h parts.0)) letter then_knows
              (rw (← weighed.counts dealt h) parts.1));
        }) (Theirs letter ∷ history) then_knows (ap (◌∷◌ (digit_of (Theirs letter))) led);
  }

  -- what is taken after one more letter
  pub more_letters : {letter : Letter} {before mid after : List ℕ} {value more sum : ℕ} → sum ≤ value + more →
      IsBoundAt bound know trail indices before mid value →
      IsBoundAfter bound know (Theirs letter) trail indices mid after more → IsBoundAt bound know trail indices before after sum
  more_letters {letter} {before} {mid} {after} {value} {more} {sum} enough so_far there = record {
    fewer = fewer_still so_far.fewer there.fewer;
    worth = λ deals weighed are history knows led.
        Parts history (taken_of (entry_in bound) before after) (taken_of (entry_in bound) before mid) (taken_of (entry_in bound) mid after) value more sum
        (λ dealt h. omega (arith, so_far.fewer.less (entry_in bound dealt), there.fewer.less (entry_in bound dealt))) enough
        (so_far.worth deals weighed are history knows led)
        (Turn history (taken_of (entry_in bound) mid after) more (Theirs letter) (λ card is. absurd cc) (there.worth deals weighed are history knows led));
  }

-- what is held back while a turn is walked, and then put back, changes nothing
pub held_bound : {bound : Bound} {know : Knowledge} {trail indices before rest left after : List ℕ} {value : ℕ} (held : ℕ → ℕ) →
    ((index : ℕ) → get_or rest index 0 + held index ≤ get_or before index 0) →
    ((index : ℕ) → has indices index ≡ false → get_or rest index 0 ≡ get_or before index 0) →
    ((index : ℕ) → get_or after index 0 ≤ get_or left index 0 + held index) →
    ((index : ℕ) → has indices index ≡ false → get_or after index 0 ≡ get_or left index 0) → IsBoundAt bound know trail indices rest left value →
    IsBoundAt bound know trail indices before after value
held_bound {bound} {before = before} {rest = rest} {left = left} {after = after} held less same most also there = record {
  fewer = record {
    less = λ index. omega (arith, less index, most index, there.fewer.less index);
    elsewhere = λ index none. also index none ∙ there.fewer.elsewhere index none ∙ same index none;
  };
  worth = λ deals weighed are history knows led.
      lower (omega arith) (λ dealt h. omega (arith, less (entry_in bound dealt), most (entry_in bound dealt)))
      (there.worth deals weighed are history knows led);
}

-- ---- cards
-- a card that may be played, where the owner need not say go
pub some_card : (know : Knowledge) (go : Bool) →
    ((go ≡ true) ↔ ((know.round.asked ≡ turns.Owner) × (list_any (fits_at (count_of know.round.pile)) know.own_left ≡ false))) →
    know.round.asked ≡ turns.Owner → go ≡ false → (card : ℕ) × (may_play know card ≡ true)
some_card know go must asked not_go =
    let test = fits_at (count_of know.round.pile) in
    let one = any_found test know.own_left (true_from_ne_false (list_any test know.own_left) (λ none. both_ways go not_go (must.1 (asked, none)))) in
    (one.0, and_from (has know.own_left one.0) (test one.0) one.1 one.2)

pub cannot_play : (know : Knowledge) (card : ℕ) (result : Bool) → ((result ≡ true) ↔ (count_of know.round.pile + card_value card ≤ 31)) → result ≡ false →
    may_play know card ≡ true → ⊥
cannot_play know card result fits is may =
    both_ways result is (fits.1 (leb-true _ _ (and_parts (has know.own_left card) (fits_at (count_of know.round.pile) card) may).1))

pub can_play : (know : Knowledge) (card : ℕ) (result : Bool) → has know.own_left card ≡ true →
    ((result ≡ true) ↔ (count_of know.round.pile + card_value card ≤ 31)) → result ≡ true → may_play know card ≡ true
can_play know card result held fits is = and_from (has know.own_left card) (fits_at (count_of know.round.pile) card) held (le-leb _ _ (fits.0 is))

-- the loop over the owner's cards
pub still_held : (held : List ℕ) {cards rest : List ℕ} {lowest : ℕ} → cards ≡ lowest ∷ rest → ((card : ℕ) → has cards card ≡ true → has held card ≡ true) →
    (card : ℕ) → has rest card ≡ true → has held card ≡ true
still_held held {rest = rest} {lowest = lowest} parts kept card h = kept card (rw parts (has_there lowest card rest h))

-- each allowed card that may be played is still ahead, or what is taken is worth so much after it
pub record AreWalked (bound : Bound) (know : Knowledge) (trail indices before after cards : List ℕ) (least : ℕ) : Type 0 where
  pub fewer : AreFewer indices before after
  pub each : (card : ℕ) → may_play know card ≡ true → IsAllowedAt bound.fixed.now trail (rank_of card) →
      (has cards card ≡ true) ⊎ IsBoundAfter bound know (Own (move.Card card)) trail indices before after least

-- no allowed card that may be played has been met
pub record AreBarred (bound : Bound) (know : Knowledge) (trail cards : List ℕ) : Type 0 where
  pub each : (card : ℕ) → may_play know card ≡ true → IsAllowedAt bound.fixed.now trail (rank_of card) → has cards card ≡ true

-- some has
abbrev pub SomeAllowed : Bound → Knowledge → List ℕ → Type 0
SomeAllowed bound know trail = (card : ℕ) × (may_play know card ≡ true) × IsAllowedAt bound.fixed.now trail (rank_of card)

module _ {bound : Bound} {know : Knowledge} {trail : List ℕ} where
  pub none_barred : AreBarred bound know trail know.own_left
  none_barred = record { each = λ card may allowed. (and_parts (has know.own_left card) (fits_at (count_of know.round.pile) card) may).0 }

  -- a card that can't be played, or isn't allowed
  pub still_barred : {cards rest : List ℕ} {lowest : ℕ} → cards ≡ lowest ∷ rest →
      (may_play know lowest ≡ true → ¬ IsAllowedAt bound.fixed.now trail (rank_of lowest)) → AreBarred bound know trail cards → AreBarred bound know trail rest
  still_barred {rest = rest} {lowest = lowest} parts none barred = record {
    each = λ card may allowed. elim (has_cases lowest card rest (rw parts at (barred.each card may allowed))) [
      | inl same ↦ absurd (none (rw same may) (rw same allowed))
      | inr there ↦ there
    ];
  }

  pub all_barred : {cards : List ℕ} → cards ≡ [] → AreBarred bound know trail cards → (card : ℕ) → may_play know card ≡ true →
      ¬ IsAllowedAt bound.fixed.now trail (rank_of card)
  all_barred none barred card may allowed = both_ways false refl (rw none at (barred.each card may allowed))

module _ {bound : Bound} {know : Knowledge} {trail indices before : List ℕ} where
  pub none_walked : {least : ℕ} → AreWalked bound know trail indices before before know.own_left least
  none_walked = record {
    fewer = same_amounts;
    each = λ card may allowed. inl ((none_barred {bound = bound} {know = know} {trail = trail}).each card may allowed);
  }

  pub one_passed : {after cards rest : List ℕ} {lowest least : ℕ} → cards ≡ lowest ∷ rest →
      (may_play know lowest ≡ true → ¬ IsAllowedAt bound.fixed.now trail (rank_of lowest)) → AreWalked bound know trail indices before after cards least →
      AreWalked bound know trail indices before after rest least
  one_passed {rest = rest} {lowest = lowest} parts none done = record {
    fewer = done.fewer;
    each = λ card may allowed. elim (done.each card may allowed) [
      | inl h ↦ elim (has_cases lowest card rest (rw parts at h)) [
        | inl same ↦ absurd (none (rw same may) (rw same allowed))
        | inr there ↦ inl there
      ]
      | inr after ↦ inr after
    ];
  }

  -- one more card
  pub one_walked : {kept left after cards rest : List ℕ} {lowest least value more : ℕ} → cards ≡ lowest ∷ rest → AreFewer indices before after →
      AreLowered bound kept after least value → AreLowered bound left after more value →
      IsBoundAfter bound know (Own (move.Card lowest)) trail indices before left more → AreWalked bound know trail indices before kept cards least →
      AreWalked bound know trail indices before after rest value
  one_walked {rest = rest} {lowest = lowest} parts fewer one other walked done = record {
    fewer = fewer;
    each = λ card may allowed. elim (done.each card may allowed) [
      | inl h ↦ elim (has_cases lowest card rest (rw parts at h)) [
        | inl same ↦ inr (rw same at (lowered fewer other walked))
        | inr there ↦ inl there
      ]
      | inr there ↦ inr (lowered fewer one there)
    ];
  }

  pub all_done : {after cards : List ℕ} {least : ℕ} → cards ≡ [] → AreWalked bound know trail indices before after cards least → (card : ℕ) →
      may_play know card ≡ true → IsAllowedAt bound.fixed.now trail (rank_of card) →
      IsBoundAfter bound know (Own (move.Card card)) trail indices before after least
  all_done none done card may allowed = elim (done.each card may allowed) [
    | inl h ↦ absurd (both_ways false refl (rw none at h))
    | inr after ↦ after
  ]

-- ---- positions
-- a position after a turn
module _ {bound : Bound} {know next : Knowledge} {trail indices spare : List ℕ} {event : Event} (walk : MayWalk bound know trail indices spare)
    (goes : (other : Setup) (history : List Event) → KnowsAfter know other history → KnowsAfter next other (event ∷ history)) where
  pub falls : turns_ahead next < turns_ahead know
  falls = know_falls know next bound.problem.now event walk.history walk.knows (goes bound.problem.now walk.history walk.knows)

  -- the trail has room for a turn
  pub trail_room : length trail < 28
  trail_room = omega (arith, walk.short)

  -- with some of the indices
  pub walk_after : (longer left room : List ℕ) {digit : ℕ} → longer ≡ digit ∷ trail → All (λ index. index < 29120) left →
      length left * (3 * turns_ahead next + 3) ≤ length room → MayWalk bound next longer left room
  walk_after longer left room {digit} is small enough = record {
    own = walk.own;
    history = event ∷ walk.history;
    knows = goes bound.problem.now walk.history walk.knows;
    small = small;
    room = enough;
    short = let more : length longer ≡ suc (length trail) = ap length is in omega (arith, more, falls, walk.short);
  }

-- the spare room is enough for three lists
pub room_thrice : (many before : ℕ) {room : ℕ} → many * (3 * before + 3) ≤ room → 3 * many ≤ room
room_thrice many before enough = grind (arith, enough)

-- and then for those of the turns after it
pub room_after : {many before after room : ℕ} (few : ℕ) → many * (3 * before + 3) ≤ room → after < before → few ≤ many →
    (few * (3 * after + 3) + few + 2 * many ≤ room) × (few * (3 * after + 3) ≤ room)
room_after {many} {before} {after} {room} few enough falls fewer =
    let less : many * (3 * after + 6) ≤ room = grind (arith, enough, falls) in
    let part : few * (3 * after + 3) ≤ many * (3 * after + 3) = grind (arith, fewer) in
    (grind (arith, less, part, fewer), grind (arith, less, part, fewer))

-- ---- the walk from the opening on
pub start_room : {indices ahead room : ℕ} → indices ≡ 29120 → ahead ≤ 27 → room ≡ 84 * 29120 → indices * (3 * ahead + 3) ≤ room
start_room {indices} {ahead} {room} is few enough = let all : 29120 * (3 * ahead + 3) ≤ room = omega (arith, few, enough) in rw is all

pub start_strategy : {bound : Bound} {know : Knowledge} {indices before after : List ℕ} (parts value : ℕ) →
    KnowsAfter know bound.problem.now (played_events bound.problem.now) → ((index : ℕ) → get_or before index 0 ≤ parts) →
    IsBoundAt bound know [] indices before after value →
    AreOpenDeals bound.problem.now bound.ladders.now bound.choices.now bound.weights.now bound.tables.now →
    IsStrategyIf event_of bound.problem.now (IsAllowedBy bound.problem.now bound.fixed.now) parts value
start_strategy {bound} {know} {indices} {before} {after} parts value knows few worth are = record {
  deals = are.deals;
  different = are.different;
  in_order = are.in_order;
  amounts = taken_of (entry_in bound) before after;
  few = λ dealt h. let most = few (entry_in bound dealt) in omega (arith, most);
  worth = worth.worth are.deals are.weighed (record {
    passing = λ dealt h some. (passing_same know bound.problem.now (played_events bound.problem.now) knows dealt).0 (are.weighed.are_open dealt h);
  }) (played_events bound.problem.now) knows refl;
}
