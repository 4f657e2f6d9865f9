-- Why no plan is sure, as text: games that refute every player, one section after another, or the same in words.
use Rattle.std.specs.Prelude.{ℕ, List, [], ◌∷◌, ◌++◌, codes, decimal, flat_map, length}
use Rattle.crib_game.specs.declared.section.game.Game.{Game}
use Rattle.crib_game.specs.Spelling.{game_text}
use Rattle.crib_problem.specs.Setup.{Setup}
use Rattle.crib_run.specs.declared.status.Status.TheVariants.{Yes, No}
use Rattle.crib_run.specs.Reply.{Reply}
use Rattle.crib_sheet.specs.Beaten.{ranks_text}
use Rattle.crib_why.specs.declared.why.Why.{Why}
use Rattle.crib_why.specs.declared.why.Why.TheVariants as why
use Rattle.crib_why_sheet.specs.WhyRows.{why_lines}
use Rattle.crib_why_sheet.specs.WhyText.{lines_text}
use Rattle.crib_sheet.specs.declared.refutation.InWords.{InWords}
use Rattle.crib_sheet.specs.declared.refutation.InWords.TheVariants as words

-- the texts of the three answers: that a plan is sure; games that refute every player; and that no plan is sure but a
-- player is who looks at suits too, with the ranks after which they decide
pub record WhyTexts : Type 0 where
  pub sure : List ℕ
  pub refuted : List Game → List ℕ
  pub suits : List ℕ → List ℕ

-- how many games refute every player, and then the section of each
unfoldable pub refuted_text : List Game → List ℕ
refuted_text games = codes "refuted " ++ decimal (length games) ++ codes "\n" ++ flat_map game_text games

-- that suits decide, and the letters of the ranks after which they do, if there are any: `suits J`
abbrev pub suits_line : List ℕ → List ℕ
suits_line [] = codes "suits\n"
suits_line (rank ∷ ranks) = codes "suits " ++ ranks_text (rank ∷ ranks) ++ codes "\n"

-- the texts of `refute`
abbrev pub refute_texts : WhyTexts
refute_texts = record { sure = codes "sure\n"; refuted = refuted_text; suits = suits_line }

-- that some plan is sure, in words
abbrev pub sure_sentence : List ℕ
sure_sentence = codes "Some plan is sure: cribplan solve prints one.\n"

-- that no plan is sure but a player is, in words
abbrev pub somebody_sentence : List ℕ
somebody_sentence = codes "No plan is sure, since a plan sees no suits. But a player who does is sure.\n"

-- the same, and after which of the opponent's next ranks suits decide, if there are any
abbrev pub suits_sentences : List ℕ → List ℕ
suits_sentences [] = somebody_sentence
suits_sentences (rank ∷ ranks) =
    somebody_sentence ++ codes "Look at the suit if they show one of these next: " ++ ranks_text (rank ∷ ranks)
    ++ codes "\n"

-- the rows of games that refute every player
abbrev pub rows_text : Setup → List Game → List ℕ
rows_text problem games = lines_text (why_lines problem games)

-- the texts of `why`
abbrev pub why_texts : Setup → WhyTexts
why_texts problem = record { sure = sure_sentence; refuted = rows_text problem; suits = suits_sentences }

-- the reply with the reason why a plan is sure, or none is
abbrev pub refute_reply : {A : Type 0} → Why A → Reply
refute_reply why.Sure = record { output = refute_texts.sure; status = Yes }
refute_reply (why.Refuted games) = record { output = refuted_text games.items; status = No }
refute_reply (why.BySuits ranks) = record { output = suits_line ranks.items; status = No }

-- the same in words
abbrev pub words_reply : {A : Type 0} → InWords A → Reply
words_reply words.Sure = record { output = sure_sentence; status = Yes }
words_reply (words.Refuted lines) = record { output = lines_text lines.items; status = No }
words_reply (words.BySuits ranks) = record { output = suits_sentences ranks.items; status = No }
