-- Worked examples of what the texts of `leads`, `next`, `scores` and `holes` guarantee.
use Rattle.std.proofs.Common.{Ok, Err, ◌≡◌, ◌≢◌, ◌⊎◌, ◌∙◌, inl, inr, ℕ, List, [], ◌∷◌, codes, get_or, refl, sym, ap, subst, arith}
use Rattle.std.specs.Prelude.{Bool, Result, true, false, ◌++◌}
use Rattle.std.specs.Fmt.{digits}
use Rattle.crib_cards.specs.Sets.{set_where}
use Rattle.crib_cards.specs.declared.sides.Side.TheVariants.{Owner, Opponent}
use Rattle.crib_cards.specs.declared.moves.Act.{Act}
use Rattle.crib_play.specs.declared.turns.Turn.{Turn}
use Rattle.crib_play.specs.declared.turns.Turn.TheVariants as turns
use Rattle.crib_text.specs.Refusals.{Refusal}
use Rattle.crib_problem.specs.Setup.{Setup}
use Rattle.crib_problem.specs.Spelling.{problem_lines, problem_text}
use Rattle.crib_problem.proofs.ExampleProblems.{four_twos, plays, twos_and_aces}
use Rattle.crib_plan.specs.declared.plan.Node.{Node}
use Rattle.crib_input.specs.Spelled.{SpellsProblem}
use Rattle.crib_check.proofs.Examples.{AreThese, in_a_row, of_these}
use Rattle.crib_sure.specs.Sure.{IsSure}
use Rattle.crib_sure.proofs.ExampleOpening.{ace_or_two, at_29}
use Rattle.crib_next.specs.Input.{SpellsTurns}
use Rattle.crib_next.specs.Next.{next_from}
use Rattle.crib_next.specs.declared.next.NextTurn.{NextTurn}
use Rattle.crib_next.specs.declared.next.NextTurn.TheVariants.{Play, Go, Wait, Over, Stuck}
use Rattle.crib_leads.specs.declared.leads.Lead.{Lead}
use Rattle.crib_leads.specs.declared.verdict.LeadVerdict.{LeadVerdict}
use Rattle.crib_leads.specs.declared.verdict.LeadVerdict.TheVariants.{Missed, Sure}
use Rattle.crib_tables.specs.Scores.{AreScores}
use Rattle.crib_tables.specs.declared.scores.ScoreTable.{ScoreTable}
use Rattle.crib_run.specs.Reply.{Reply}
use Rattle.crib_run.specs.declared.status.Status.TheVariants.{Yes, No, Refused, Fault}
use Rattle.crib_sheet.specs.Holes.{HasHoles}
use Rattle.crib_sheet.specs.Leads.{HasLargePlan, HasLeads}
use Rattle.crib_sheet.specs.LeadsText.{leads_status}
use Rattle.crib_sheet.specs.Meaning.{IsSomeRefused, SheetMeans}
use Rattle.crib_sheet.specs.Next.{next_text}
use Rattle.crib_sheet.specs.Sheet.{AnswersScores}
use Rattle.crib_sheet.specs.Scores.{above_text, count_line, scores_text}
use Rattle.crib_sheet.specs.declared.answer.job.SheetJob.TheVariants.{Leads, Next, Scores, Holes}

abbrev yes : List ℕ → Reply
yes text = record { output = text; status = Yes }

abbrev no : List ℕ → Reply
no text = record { output = text; status = No }

abbrev refused : List ℕ → Reply
refused text = record { output = text; status = Refused }

abbrev fault : List ℕ → Reply
fault text = record { output = text; status = Fault }

-- ---- what spells no problem is refused, and nothing else
no_problem : (problem : Setup) → SpellsProblem (codes "aab") problem → ⊥
unfolding problem_text problem_lines
no_problem problem spelled = (let text = spelled.text in cc)

no_turns : (problem : Setup) (plan : List Node) (acts : List Act) → SpellsTurns (codes "aab") problem plan acts → ⊥
unfolding problem_text problem_lines
no_turns problem plan acts spelled = (let text = spelled.text in cc)

no_problem_is_refused : (text : List ℕ) → SheetMeans Leads (codes "aab") (refused text) × SheetMeans Next (codes "aab") (refused text)
    × SheetMeans Scores (codes "aab") (refused text) × SheetMeans Holes (codes "aab") (refused text)
no_problem_is_refused text = (no_problem, (λ problem plan acts spelled. absurd (no_turns problem plan acts spelled)), no_problem, no_problem)

no_sheet_of_no_problem : (text : List ℕ) → SheetMeans Leads (codes "aab") (yes text) ⊎ SheetMeans Leads (codes "aab") (no text)
    ⊎ SheetMeans Scores (codes "aab") (yes text) ⊎ SheetMeans Holes (codes "aab") (yes text) → ⊥
no_sheet_of_no_problem text (inl means) = no_problem means.0 means.1
no_sheet_of_no_problem text (inr (inl means)) = no_problem means.0 means.1
no_sheet_of_no_problem text (inr (inr (inl means))) = no_problem means.problem means.spelled
no_sheet_of_no_problem text (inr (inr (inr means))) = no_problem means.0 means.1

nothing_is_next_to_no_problem : (text : List ℕ) → SheetMeans Next (codes "aab") (yes text) ⊎ SheetMeans Next (codes "aab") (no text) → ⊥
nothing_is_next_to_no_problem text (inl means) = no_turns means.0.problem means.0.plan means.0.turns means.0.spelled
nothing_is_next_to_no_problem text (inr means) = no_turns means.0.problem means.0.plan means.0.turns means.0.spelled

-- a text is that of a problem which the input spells
texts_of_twos : (input : List ℕ) (table : ScoreTable) → SpellsProblem input four_twos → AreScores four_twos table → codes "aab" ≡ scores_text four_twos table →
    (HasLeads four_twos (yes (codes "aab")) → SheetMeans Leads input (yes (codes "aab")))
    × (HasLeads four_twos (no (codes "aab")) → SheetMeans Leads input (no (codes "aab")))
    × (HasHoles four_twos (yes (codes "aab")) → SheetMeans Holes input (yes (codes "aab"))) × SheetMeans Scores input (yes (codes "aab"))
texts_of_twos input table spelled right printed = (
  λ has. (four_twos, spelled, has),
  λ has. (four_twos, spelled, has),
  λ has. (four_twos, spelled, has),
  record { problem = four_twos; spelled = spelled; table = table; right = right; printed = printed },
)

a_problem_is_not_refused : (input text : List ℕ) → SpellsProblem input four_twos → (SheetMeans Leads input (refused text) → ⊥)
    × (SheetMeans Scores input (refused text) → ⊥) × (SheetMeans Holes input (refused text) → ⊥)
a_problem_is_not_refused input text spelled = ((λ means. means four_twos spelled), (λ means. means four_twos spelled), (λ means. means four_twos spelled))

-- `scores` and `holes` are never no
never_no : (input text : List ℕ) → SheetMeans Scores input (no text) ⊎ SheetMeans Holes input (no text) → ⊥
never_no input text (inl means) = means
never_no input text (inr means) = means

-- ---- the lines of faults
faults : (input : List ℕ) (problem : Setup) → SpellsProblem input problem → HasLargePlan problem
    → SheetMeans Leads input (fault (codes "fault 11\n")) × SheetMeans Leads input (fault (codes "fault 50\n"))
    × SheetMeans Next input (fault (codes "fault 11\n")) × SheetMeans Scores input (fault (codes "fault 11\n"))
    × SheetMeans Holes input (fault (codes "fault 11\n"))
unfolding digits
faults input problem spelled large = (inl refl, inr (problem, spelled, large, refl), refl, refl, refl)

no_fault_without_a_line : (input : List ℕ) → (SheetMeans Leads input (fault []) → ⊥) × (SheetMeans Next input (fault []) → ⊥)
    × (SheetMeans Scores input (fault []) → ⊥) × (SheetMeans Holes input (fault []) → ⊥)
no_fault_without_a_line input = (
  λ means. elim means [ inl text ↦ cc | inr large ↦ (let text = large.3 in cc) ],
  λ text. cc,
  λ text. cc,
  λ text. cc,
)

no_large_plan_found : (input : List ℕ) → ((problem : Setup) → SpellsProblem input problem → HasLargePlan problem → ⊥)
    → SheetMeans Leads input (fault (codes "fault 50\n")) → ⊥
unfolding digits
no_large_plan_found input none (inl text) = (let digit : 53 ≡ 49 = ap (λ (bytes : List ℕ). get_or bytes 6 0) text in absurd (omega (arith, digit)))
no_large_plan_found input none (inr large) = none large.0 large.1 large.2

-- ---- `leads`: with a lead that is sure the status is yes, and with one that misses the goal it is no
abbrev two_led : LeadVerdict → Lead
two_led verdict = record { act = plays Owner 4; is_rank = false; verdict = verdict }

wrong_statuses : (input text : List ℕ) → ((means : SheetMeans Leads input (no text)) → means.2.own ≡ two_led (Sure 1) ∷ [] → ⊥)
    × ((means : SheetMeans Leads input (yes text)) → means.2.own ≡ two_led Missed ∷ [] → ⊥)
wrong_statuses input text = (
  λ means own. let status : No ≡ Yes = ap (λ (reply : Reply). reply.status) means.2.written ∙ ap (λ all. leads_status all means.2.theirs) own in absurd cc,
  λ means own. let status : Yes ≡ No = ap (λ (reply : Reply). reply.status) means.2.written ∙ ap (λ all. leads_status all means.2.theirs) own in absurd cc,
)

-- ---- `next`: after 2C and an ace the second two is stated; before it the plan without a node is stuck
two_and_ace : (input : List ℕ) → SpellsTurns input four_twos in_a_row (plays Owner 4 ∷ plays Opponent 0 ∷ []) → SheetMeans Next input (yes (codes "play 2D\n"))
unfolding next_text set_where
two_and_ace input spelled = (
  record {
    problem = four_twos;
    plan = in_a_row;
    turns = plays Owner 4 ∷ plays Opponent 0 ∷ [];
    spelled = spelled;
    line = 10;
    next = Play 5;
    right = refl;
    printed = refl;
  },
  λ stuck. absurd cc,
)

no_text_has_two : (problem : Setup) (plan : List Node) (turns : List Act) (next : NextTurn) → next ≢ Stuck →
    codes "oover\n" ≡ next_text problem plan turns next → ⊥
unfolding next_text
no_text_has_two problem plan turns (Play card) other text = cc
no_text_has_two problem plan turns Go other text = cc
no_text_has_two problem plan turns Wait other text = cc
no_text_has_two problem plan turns Over other text = cc
no_text_has_two problem plan turns Stuck other text = other refl

-- `over` has one o
wrong_with_two : (input : List ℕ) → SheetMeans Next input (yes (codes "oover\n")) → ⊥
wrong_with_two input means = no_text_has_two means.0.problem means.0.plan means.0.turns means.0.next means.1 means.0.printed

wrong_if_not_stuck : (input text : List ℕ) (means : SheetMeans Next input (yes text)) → AreThese means.0.problem means.0.plan four_twos [] →
    means.0.turns ≡ [] → ⊥
unfolding set_where
wrong_if_not_stuck input text means are none =
    let next = subst (λ acts. next_from means.0.problem means.0.plan means.0.line [] acts ≡ Ok means.0.next) none means.0.right in
    let stuck : ◌≡◌ {A = Result NextTurn Refusal} (Ok Stuck) (Ok means.0.next) =
    of_these (λ setup plan. next_from setup plan means.0.line [] [] ≡ Ok means.0.next) means.0.problem means.0.plan _ _ are next in
    means.1 cc

wrong_if_stuck : (input text : List ℕ) (means : SheetMeans Next input (no text)) →
    (AreThese means.0.problem means.0.plan at_29 ace_or_two × IsSure at_29 ace_or_two) ⊎ (means.0.next ≡ Play 5) → ⊥
wrong_if_stuck input text means (inl (are, sure)) = of_these (λ setup plan. ¬ IsSure setup plan) means.0.problem means.0.plan _ _ are means.2 sure
wrong_if_stuck input text means (inr next) = (let stuck : Play 5 ≡ Stuck = sym next ∙ means.1 in absurd cc)

no_text_if_stuck : (input : List ℕ) → SheetMeans Next input (no []) → ⊥
unfolding next_text
no_text_if_stuck input means =
    let text : [] ≡ next_text means.0.problem means.0.plan means.0.turns Stuck =
    subst (λ next. [] ≡ next_text means.0.problem means.0.plan means.0.turns next) means.1 means.0.printed in
    absurd cc

-- twos and aces in turn are all allowed
none_is_refused : IsSomeRefused four_twos in_a_row twos_and_aces 10 → ⊥
unfolding set_where
none_is_refused refused = refused _ refl

-- KC isn't held, and no turn is refused if there is none
king_is_refused : IsSomeRefused four_twos in_a_row (plays Owner 48 ∷ []) 10
unfolding set_where
king_is_refused next e = absurd cc

no_turn_is_refused : (input text : List ℕ) → SpellsTurns input four_twos in_a_row [] → SheetMeans Next input (refused text) → ⊥
no_turn_is_refused input text spelled means = (means four_twos in_a_row [] spelled).1 _ refl

-- ---- `scores`: at the first lead the owner is to move, and the text isn't empty
tables_begin : (turn : Turn) (first : Bool) → [] ≡ count_line turn first → ⊥
tables_begin turns.Owner true text = cc
tables_begin turns.Owner false text = cc
tables_begin turns.Opponent true text = cc
tables_begin turns.Opponent false text = cc
tables_begin turns.Over true text = cc
tables_begin turns.Over false text = cc

front_of : (front back : List ℕ) → [] ≡ front ++ back → [] ≡ front
front_of [] back text = refl
front_of (byte ∷ front) back text = absurd cc

wrong_tables : (input text : List ℕ) (means : SheetMeans Scores input (yes text)) → (means.problem ≡ four_twos) × (means.table.turn ≡ turns.Opponent) → ⊥
unfolding set_where
wrong_tables input text means (same, turn) = absurd cc

no_table_without_a_text : (input : List ℕ) → SheetMeans Scores input (yes []) → ⊥
unfolding scores_text above_text
no_table_without_a_text input means =
    let above = front_of (above_text means.problem means.table) _ (front_of _ _ means.printed) in
    tables_begin means.table.turn _ (front_of _ _ (front_of _ _ (front_of _ _ (front_of _ _ (front_of _ _ above)))))

-- a right table has the status yes, and says who is to move; a score of 121 has none
tables_are_right : (text : List ℕ) → (AnswersScores (Ok four_twos) (no text) → ⊥)
    × ((is : AnswersScores (Ok four_twos) (yes text)) → is.0.turn ≡ turns.Opponent → ⊥)
    × (AnswersScores (Err (record { line = 3; number = 21 })) (yes text) → ⊥)
unfolding set_where
tables_are_right text = (
  λ is. (let status : No ≡ Yes = ap (λ (reply : Reply). reply.status) is.2 in absurd cc),
  λ is turn. (let right = is.1.turn in absurd cc),
  λ is. (let status : Yes ≡ Refused = ap (λ (reply : Reply). reply.status) is in absurd cc),
)

-- ---- `holes`: 122 holes from 0 are too many
too_many_holes : (input text : List ℕ) (means : SheetMeans Holes input (yes text)) → means.2.0.holes ≡ 122 → ⊥
too_many_holes input text means many = absurd (omega (arith, means.2.2.most.left, many))
