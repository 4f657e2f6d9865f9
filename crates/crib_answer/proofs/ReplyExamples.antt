-- Worked examples of replies: what is printed for a replayed game, an ending, a verdict, a plan and a board.
use Rattle.std.proofs.Common.{◌≡◌, refl, [], ◌∷◌, codes, map, true, false, Some, None, Err}
use Rattle.std.specs.Fmt.{digits}
use Rattle.crib_cards.specs.declared.sides.Side.TheVariants.{Owner, Opponent}
use Rattle.crib_plan.specs.Spelling.{plan_text, plan_lines}
use Rattle.crib_show.specs.declared.show.outcomes.Outcome.TheVariants as outcomes
use Rattle.crib_game.specs.declared.following.ending.Ending.TheVariants as ending
use Rattle.crib_game.specs.declared.replaying.report.Report.{Report}
use Rattle.crib_game.specs.declared.section.game.Game.{Game}
use Rattle.crib_game.specs.Spelling.{game_text, game_lines}
use Rattle.crib_check.specs.declared.verdict.Verdict.TheVariants.{Holds, Fails}
use Rattle.crib_sure.proofs.ExampleOpening.{ace_or_two}
use Rattle.crib_run.specs.declared.status.Status.TheVariants.{Yes, No, Refused}
use Rattle.crib_run.specs.Reply.{Reply}
use Rattle.crib_answer.specs.Answer.{AnswersCheck, AnswersSolve, board_reply, counted_line, ending_reply, ending_status, found_reply, play_line}
use Rattle.crib_answer.specs.Answer.{report_reply, verdict_reply}

-- ---- replay. After the play the scores are 1 and 2, and three hands are counted
abbrev all_counted : Report
all_counted = record {
  rows = record { items = [] };
  show = record {
    items =
        record { crib = false; side = Owner; points = 11; scores = record { owner = 12; opponent = 2 } }
        ∷ record { crib = false; side = Opponent; points = 9; scores = record { owner = 12; opponent = 11 } }
        ∷ record { crib = true; side = Opponent; points = 2; scores = record { owner = 12; opponent = 13 } }
        ∷ [];
  };
  scores = record { owner = 1; opponent = 2 };
  over = Some outcomes.Short;
}

-- a game that isn't over has no show
abbrev none_counted : Report
none_counted = record all_counted { show = record { items = [] }; scores = record { owner = 0; opponent = 31 }; over = None }

pub replies_to_reports : map report_reply (all_counted ∷ none_counted ∷ [])
    ≡ record { output = codes "play 1 2\nhand owner 11 12 2\nhand opponent 9 12 11\ncrib opponent 2 12 13\nshort\n"; status = Yes }
    ∷ record { output = codes "play 0 31\nopen\n"; status = Yes } ∷ []
unfolding digits play_line counted_line
replies_to_reports = refl

-- ---- follow
pub only_reached_is_yes :
    map ending_status (ending.Open ∷ ending.Stuck ∷ ending.Lost ∷ ending.Short ∷ ending.Reached ∷ []) ≡ No ∷ No ∷ No ∷ No ∷ Yes ∷ []
only_reached_is_yes = refl

pub replies_to_endings : map ending_reply (ending.Stuck ∷ ending.Reached ∷ [])
    ≡ record { output = codes "stuck\n"; status = No } ∷ record { output = codes "reached\n"; status = Yes } ∷ []
replies_to_endings = refl

-- ---- check, solve and board
-- four aces against a plan that states no card
abbrev no_acts : Game
no_acts = record { opp = record { hold = 0 ∷ 1 ∷ 2 ∷ 3 ∷ []; throw = 8 ∷ 9 ∷ [] }; acts = record { items = [] } }

pub replies_by_job : verdict_reply Holds ∷ verdict_reply (Fails ending.Stuck no_acts) ∷ found_reply None ∷ found_reply (Some ace_or_two)
    ∷ board_reply (codes "ab\n") ∷ []
    ≡ record { output = codes "holds\n"; status = Yes }
    ∷ record { output = codes "fails stuck\ngame 1\nhold AC AD AH AS\nthrow 3C 3D\nacts 0\n"; status = No }
    ∷ record { output = codes "none\n"; status = No }
    ∷ record { output = codes "plan 1\nnodes 3\n0 see A:1 g:2\n1 play AC end\n2 play 2C end\n"; status = Yes }
    ∷ record { output = codes "ab\n"; status = Yes } ∷ []
unfolding game_text game_lines plan_text plan_lines digits
replies_by_job = refl

-- a refused input has the line of its refusal
pub refused_replies : (reply : Reply) →
    (AnswersCheck (Err (record { line = 3; number = 21 })) reply ≡ (reply ≡ record { output = codes "refused line 3: 21\n"; status = Refused }))
    × (AnswersSolve (Err (record { line = 1; number = 3 })) reply ≡ (reply ≡ record { output = codes "refused line 1: 3\n"; status = Refused }))
unfolding digits
refused_replies reply = (refl, refl)
