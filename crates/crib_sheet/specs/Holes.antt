-- How many holes are sure, as text.
use Rattle.std.specs.Prelude.{◌≡◌, ℕ, ◌-◌, ◌==◌, nat_le, nat_lt, List, [], ◌∷◌, ◌++◌, Option, Some, None, codes}
use Rattle.std.specs.Prelude.{decimal, length, if◌then◌else◌}
use Rattle.crib_cards.specs.declared.sides.Scores.{Scores}
use Rattle.crib_cards.specs.declared.sides.Side.{Side}
use Rattle.crib_cards.specs.declared.sides.Side.TheVariants.{Owner, Opponent}
use Rattle.crib_problem.specs.Setup.{Setup, IsSetup}
use Rattle.crib_problem.specs.Spelling.{move_word}
use Rattle.crib_show.specs.Show.{hand_points}
use Rattle.crib_run.specs.Reply.{Reply}
use Rattle.crib_run.specs.declared.status.Status.TheVariants.{Yes}
use Rattle.crib_game_sheet.specs.Heading.{how_many}
use Rattle.crib_tables.specs.Holes.{AreHoles}
use Rattle.crib_tables.specs.Scores.{at_scores}
use Rattle.crib_tables.specs.declared.holes.Holes.{Holes}
use Rattle.crib_tables.specs.declared.holes.TurnHoles.{TurnHoles}
use Rattle.crib_sheet.specs.declared.holes.HolesSheet.{HolesSheet}

-- the problem with both scores 0 at the first lead, where nobody is at hole 121 in this deal
abbrev pub at_zero : Setup → Setup
at_zero problem = at_scores problem (record { owner = 0; opponent = 0 })

-- how many holes are sure there, if the problem can have these scores
abbrev pub AreAtZero : Setup → Option Holes → Type 0
AreAtZero problem None = ¬ IsSetup (at_zero problem)
AreAtZero problem (Some holes) = IsSetup (at_zero problem) × AreHoles (at_zero problem) holes

-- what is sure if nobody is at hole 121 before all is counted
abbrev pub unhurried : Holes → Option Holes → Holes
unhurried holes None = holes
unhurried holes (Some others) = others

-- so many holes: `1 hole` or `12 holes`
abbrev pub holes_word : ℕ → List ℕ
holes_word holes = how_many holes (codes "hole")

-- where the pegs are, if cards were played
abbrev pub pegs_line : Setup → Scores → List ℕ
pegs_line problem pegs =
    if length problem.played == 0 then []
    else
    codes "pegs now: owner " ++ decimal pegs.owner ++ codes ", opponent " ++ decimal pegs.opponent ++ codes "\n"

-- how many of these holes the play and the show have. The crib isn't known, and nor is what a dealer shows
abbrev pub parts_text : Side → ℕ → ℕ → List ℕ
parts_text Owner hand holes = []
parts_text Opponent hand holes =
    if nat_le hand holes then
    codes ", " ++ decimal (holes - hand) ++ codes " in the play and " ++ decimal hand ++ codes " in the show"
    else []

-- so many holes, and the parts of them
unfoldable pub figure_line : Side → ℕ → ℕ → List ℕ
figure_line dealer hand holes = holes_word holes ++ parts_text dealer hand holes ++ codes "\n"

-- how many holes are sure, and that others are at 0 to 0
unfoldable pub not_exact_text : Setup → ℕ → List ℕ
not_exact_text problem holes =
    codes "sure: " ++ holes_word holes ++ codes "\nnot exact: from " ++ decimal problem.scores.owner ++ codes " "
    ++ decimal problem.scores.opponent ++ codes " somebody may be at hole 121 before all is counted\nsure at 0 to 0: "

-- how many holes are sure, here and at 0 to 0
unfoldable pub sure_text : Setup → ℕ → ℕ → ℕ → List ℕ
sure_text problem hand holes others =
    if holes == others then codes "sure: " ++ figure_line problem.dealer hand holes
    else not_exact_text problem holes ++ figure_line problem.dealer hand others

-- what the hand counts, if the line above doesn't say it
abbrev pub hand_line : Side → ℕ → ℕ → List ℕ
hand_line Owner hand holes =
    codes "the hand counts " ++ decimal hand
    ++ codes "; the crib counts too and isn't known, so no figure for the play alone\n"
hand_line Opponent hand holes =
    if nat_lt holes hand then codes "the hand counts " ++ decimal hand ++ codes "\n" else []

-- how many holes are sure at 0 to 0, if they are others
abbrev pub zero_text : ℕ → ℕ → List ℕ
zero_text holes others = if holes == others then [] else codes ", and " ++ decimal others ++ codes " at 0 to 0"

-- how many holes are sure with a turn, here and at 0 to 0
unfoldable pub turn_line : TurnHoles → ℕ → List ℕ
turn_line turn others =
    codes "with " ++ move_word turn.act.what ++ codes ": " ++ holes_word turn.holes ++ zero_text turn.holes others
    ++ codes "\n"

-- a line for each turn. The others are the same turns at 0 to 0
abbrev pub turn_lines : List TurnHoles → List TurnHoles → List ℕ
turn_lines [] others = []
turn_lines (turn ∷ turns) [] = []
turn_lines (turn ∷ turns) (other ∷ others) = turn_line turn other.holes ++ turn_lines turns others

-- the whole text, by what the owner's hand counts
unfoldable pub text_with : ℕ → Setup → Holes → Holes → List ℕ
text_with hand problem holes others =
    pegs_line problem holes.pegs ++ sure_text problem hand holes.holes others.holes
    ++ hand_line problem.dealer hand others.holes ++ turn_lines holes.turns.items others.turns.items

-- the whole text
abbrev pub holes_text : Setup → Holes → Holes → List ℕ
holes_text problem holes others = text_with (hand_points problem.hold problem.starter) problem holes others

-- the reply with figures, and those at 0 to 0
abbrev pub holes_reply : Setup → Holes → Option Holes → Reply
holes_reply problem holes others = record {
  output = holes_text problem holes (unhurried holes others);
  status = Yes;
}

-- the reply with a sheet
abbrev pub holes_sheet_reply : HolesSheet → Reply
holes_sheet_reply sheet = holes_reply sheet.problem sheet.holes sheet.at_zero

-- a reply has the right figures for a problem
abbrev pub HasHoles : Setup → Reply → Type 0
HasHoles problem reply =
    (holes : Holes) × (others : Option Holes) × AreHoles problem holes × AreAtZero problem others
    × (reply ≡ holes_reply problem holes others)
