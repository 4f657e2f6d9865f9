-- How many deals beat a plan, as text.
use Rattle.std.specs.Prelude.{ℕ, zero, suc, List, ◌++◌, codes, decimal, flat_map}
use Rattle.crib_cards.specs.declared.letters.Letter.TheVariants.{Seen}
use Rattle.crib_run.specs.declared.status.Status.{Status}
use Rattle.crib_run.specs.declared.status.Status.TheVariants.{Yes, No}
use Rattle.crib_run.specs.Reply.{Reply}
use Rattle.crib_beaten.specs.declared.tally.RanksTally.{RanksTally}
use Rattle.crib_beaten.specs.declared.tally.Tally.{Tally}
use Rattle.crib_plan_sheet.specs.PlanStuck.{letter_word}

-- the deals that beat the plan, of all, at the end of a line
abbrev pub figures : ℕ → ℕ → List ℕ
figures beaten open_deals = decimal beaten ++ codes " of " ++ decimal open_deals ++ codes "\n"

-- the letters of ranks, one after another
abbrev pub ranks_text : List ℕ → List ℕ
ranks_text ranks = flat_map (λ (rank : ℕ). letter_word (Seen rank)) ranks

-- the line of four ranks: their letters, the deals with these ranks that beat the plan, and all open deals with them
unfoldable pub row_line : RanksTally → List ℕ
row_line row = ranks_text row.ranks ++ codes " " ++ figures row.beaten row.open_deals

-- the text of a tally, by its figures: the deals that beat the plan, of the open deals, and a line for each row
unfoldable pub beaten_text : ℕ → ℕ → List RanksTally → List ℕ
beaten_text open_deals beaten rows = codes "beaten " ++ figures beaten open_deals ++ flat_map row_line rows

-- the status of so many deals that beat a plan: yes if there is none, and no otherwise
abbrev pub beaten_status : ℕ → Status
beaten_status zero = Yes
beaten_status (suc others) = No

-- the reply with a tally, by its figures
abbrev pub beaten_reply : ℕ → ℕ → List RanksTally → Reply
beaten_reply open_deals beaten rows =
    record { output = beaten_text open_deals beaten rows; status = beaten_status beaten }

-- the reply with a tally
abbrev pub tally_reply : {A : Type 0} → Tally A → Reply
tally_reply tally = beaten_reply tally.open_deals tally.beaten tally.rows.items
