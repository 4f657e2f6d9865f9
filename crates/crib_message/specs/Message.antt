-- The message of a refusal or a fault.
use Rattle.std.specs.Prelude.{◌≡◌, ◌≤◌, ◌⊎◌, ◌-◌, ◌/◌, ◌%◌, ℕ, Bool, true, false, List, [], ◌∷◌, ◌++◌}
use Rattle.std.specs.Prelude.{codes, decimal, flat_map, Option, Some, None, MatchOption, All, nat_le, nat_lt, not, ◌&&◌}
use Rattle.std.specs.Prelude.{◌||◌, ◌==◌, bytes_eq, if◌then◌else◌, length, take, drop, min, slice_get, slice_index}
use Rattle.std.specs.Prelude.{is_some, option_map, unwrap_or}
use Rattle.std.specs.Char.{is_ascii_alphabetic}
use Rattle.std.specs.List.{list_all, list_any}
use Rattle.crib_cards.specs.CardText.{card_read}
use Rattle.crib_text.specs.Refusals.{Refusal, bad_byte, cut_short, bad_line, bad_card, bad_number, bad_version}
use Rattle.crib_text.specs.Refusals.{trailing_bytes}
use Rattle.crib_text.specs.Spelling.{line_feed, space}
use Rattle.crib_text.specs.Words.{number_read}
use Rattle.crib_problem.specs.Refusals.{same_card, bad_score, bad_goal, no_deal, already_over, not_held}
use Rattle.crib_problem.specs.Refusals.{does_not_fit, must_play, not_turn}
use Rattle.crib_plan.specs.Refusals.{bad_next, bad_set, too_many}
use Rattle.crib_game.specs.declared.fault.GameFault.{GameFault}
use Rattle.crib_game.specs.declared.fault.GameFault.TheVariants.{NotUnseen, AfterEnd, Strays, NotAsPlayed}
use Rattle.crib_game.specs.Refusals.{game_fault_number}
use Rattle.crib_input.specs.Refusals.{fault_words, refusal_of}
use Rattle.crib_input.specs.declared.reason.FaultCause.{FaultCause}
use Rattle.crib_input.specs.declared.reason.Reason.{Reason}
use Rattle.crib_input.specs.declared.reason.Reason.TheVariants.{Refused, Fault}
use Rattle.crib_input.specs.declared.sections.Sections.{Sections}
use Rattle.crib_message.specs.declared.message.Message.{Message}
use Rattle.crib_message.specs.declared.scene.Spot.{Spot}
use Rattle.crib_message.specs.declared.scene.Section.{Section}
use Rattle.crib_message.specs.declared.scene.Section.TheVariants.{Problem, Plan, Game, Turns, After}
use Rattle.crib_message.specs.Place.{numbered_line, spot_in}

-- the bytes of a message
unfoldable pub message_text : Message → List ℕ
message_text message = message.text.items

-- ---- an excerpt

-- whether a byte is shown as it is: 32 to 126
abbrev pub is_plain : ℕ → Bool
is_plain byte = nat_le 32 byte && nat_le byte 126

-- a hexadecimal digit
abbrev pub hex_digit : ℕ → ℕ
hex_digit digit = slice_index (codes "0123456789abcdef") digit

-- a byte as it is shown: any other byte is `\xNN`
abbrev pub shown_byte : ℕ → List ℕ
shown_byte byte =
    if is_plain byte then byte ∷ [] else codes "\\x" ++ hex_digit (byte / 16) ∷ hex_digit (byte % 16) ∷ []

-- three dots for bytes that are not shown
abbrev pub dots : List ℕ → List ℕ
dots [] = []
dots (_ ∷ _) = codes "..."

-- a line that is shown with its number. The stretch before and the one after are left out
abbrev pub shown_line : ℕ → List ℕ → List ℕ → List ℕ → List ℕ
shown_line number before shown after =
    codes "  " ++ (decimal number ++ (codes " | " ++ (dots before ++ (flat_map shown_byte shown ++ (dots after
    ++ line_feed ∷ [])))))

-- marks below a byte: as many as the columns in which it is shown
abbrev pub marks_below : ℕ → ℕ → List ℕ
marks_below mark byte = if is_plain byte then mark ∷ [] else mark ∷ mark ∷ mark ∷ mark ∷ []

-- blanks below bytes
abbrev pub blanks : List ℕ → List ℕ
blanks bytes = flat_map (marks_below 32) bytes

-- carets below bytes, or one caret if there are none
abbrev pub carets : List ℕ → List ℕ
carets [] = codes "^"
carets (byte ∷ bytes) = flat_map (marks_below 94) (byte ∷ bytes)

-- the line below a line that is shown: carets below the bytes that are meant, or behind all of them if none is, and
-- blanks below the other columns but for a bar below the bar
abbrev pub mark_line : ℕ → List ℕ → List ℕ → List ℕ → List ℕ
mark_line number before left meant =
    codes "  " ++ (blanks (decimal number) ++ (codes " | " ++ (blanks (dots before) ++ (blanks left
    ++ (carets meant ++ line_feed ∷ [])))))

-- whether a word has a byte, if there is one: it is 33 to 126 and no colon
abbrev pub is_of_word : Option ℕ → Bool
is_of_word None = false
is_of_word (Some byte) = nat_le 33 byte && nat_le byte 126 && not (byte == 58)

-- whether a word goes on behind some bytes: it has the last of them, and the first one of those behind
abbrev pub touch : List ℕ → List ℕ → Bool
touch before behind = is_of_word (slice_get before (length before - 1)) && is_of_word (slice_get behind 0)

-- whether a word is a number that passes a test
abbrev pub is_number : (ℕ → Bool) → List ℕ → Bool
is_number test word = unwrap_or (option_map test (number_read word)) false

-- whether a word is a card
abbrev pub is_card : List ℕ → Bool
is_card word = is_some (card_read word)

-- whether a number is that of the refusals of a game for this fault, of whichever card or act
abbrev pub is_for : (ℕ → GameFault) → ℕ → Bool
is_for fault number = number == game_fault_number (fault 1)

-- whether a word behind the first one of its line can be what is refused with this number: no card for `not a card`, a
-- number above 120 for `above 120`. A turn has only one such word, and so has a line with a version, holes or nodes
abbrev pub is_wrong : ℕ → List ℕ → Bool
is_wrong number word =
    if (number == bad_line) || (number == no_deal) || (number == already_over) || (number == not_held)
    || (number == does_not_fit) || (number == must_play) || is_for AfterEnd number || is_for Strays number
    then true
    else if number == bad_card then not (is_card word)
    else if number == bad_number then not (is_number (λ value. nat_le value 32) word)
    else if (number == bad_version) || (number == bad_goal) || (number == too_many)
    then is_number (λ value. true) word
    else if (number == same_card) || is_for NotUnseen number then is_card word
    else if number == bad_score then is_number (nat_lt 120) word
    else if number == bad_next then is_number (λ value. true) word || bytes_eq word (codes "end")
    else (number == bad_set) && list_any (λ byte. byte == 58) word

-- whether a stretch of a line can be what is refused with this number. Before it and behind it are these bytes. It
-- neither begins nor ends within a word. A bad byte is the first one. What is behind the last section begins its line,
-- and an act that is not as it was played is one. A line that is too short is refused at its end. All else is one word,
-- or a blank too many; and the first word of a line is refused only because another one is expected there, or a number,
-- or a turn of the other side
abbrev pub is_refused : ℕ → List ℕ → List ℕ → List ℕ → Bool
is_refused number left meant right =
    if touch left meant || touch meant right then false
    else if number == bad_byte
    then list_all is_plain left && unwrap_or (option_map (λ byte. not (is_plain byte)) (slice_get meant 0)) false
    else if number == trailing_bytes then bytes_eq left []
    else if is_for NotAsPlayed number then bytes_eq left [] && bytes_eq right []
    else if bytes_eq meant [] then ((number == cut_short) || (number == bad_line)) && bytes_eq right []
    else if list_any (λ byte. byte == space) meant then (number == bad_line) && (length meant == 1)
    else if bytes_eq left [] then (number == bad_line) || (number == bad_number) || (number == not_turn)
    else is_wrong number meant

-- a mark: it is below bytes of the line that can be what is refused, as far as they are shown. They don't begin before
-- what is shown
pub record IsMark (refusal : Refusal) (line before shown mark : List ℕ) : Type 0 where
  pub left : List ℕ
  pub meant : List ℕ
  pub right : List ℕ
  pub cut : line ≡ left ++ (meant ++ right)
  pub refused : is_refused refusal.number left meant right ≡ true
  pub seen : length before ≤ length left
  pub is : mark ≡ mark_line refusal.line before (take (length left - length before) shown)
      (take (length meant) (drop (length left - length before) shown))

-- an excerpt: a line with its number, or 100 bytes of a longer one, and then nothing or a mark
pub record IsExcerpt (refusal : Refusal) (line excerpt : List ℕ) : Type 0 where
  pub before : List ℕ
  pub shown : List ℕ
  pub after : List ℕ
  pub mark : List ℕ
  pub cut : line ≡ before ++ (shown ++ after)
  pub wide : length shown ≡ min 100 (length line)
  pub is : excerpt ≡ shown_line refusal.line before shown after ++ mark
  pub marks : (mark ≡ []) ⊎ IsMark refusal line before shown mark

-- ---- a message

-- where a line is in its section, if this is a plan, a game or the turns since
abbrev pub section_words : ℕ → Section → List ℕ
section_words number Problem = []
section_words number Plan = codes ", line " ++ (decimal number ++ codes " of the plan")
section_words number Game = codes ", line " ++ (decimal number ++ codes " of the game")
section_words number Turns = codes ", line " ++ (decimal number ++ codes " of the turns")
section_words number After = []

-- the words for the spot of a line
abbrev pub spot_words : Spot → List ℕ
spot_words spot = section_words spot.number spot.section

-- the heading of a refusal: the program, and the number of the line if it is not 0
abbrev pub heading : List ℕ → ℕ → Spot → List ℕ
heading program line spot =
    if line == 0 then program ++ codes ": "
    else program ++ (codes ": line " ++ (decimal line ++ (spot_words spot ++ codes ": ")))

-- a message is a heading, a sentence of bytes 32 to 126 with a letter among them, an LF, and the excerpt of the refused
-- line if the input has it
pub record IsRefusalMessage (program : List ℕ) (sections : Sections) (input : List ℕ) (refusal : Refusal)
    (text : List ℕ) : Type 0 where
  pub sentence : List ℕ
  pub excerpt : List ℕ
  pub is : text ≡ heading program refusal.line (spot_in sections input refusal.line)
      ++ (sentence ++ line_feed ∷ excerpt)
  pub plain : All (λ byte. is_plain byte ≡ true) sentence
  pub worded : list_any is_ascii_alphabetic sentence ≡ true
  pub shows : MatchOption (numbered_line input refusal.line) (excerpt ≡ []) (λ bytes. IsExcerpt refusal bytes excerpt)

-- the message of a fault is its words. It names no line and shows none
abbrev pub fault_text : List ℕ → FaultCause → List ℕ
fault_text program cause = program ++ (codes ": " ++ (fault_words cause ++ line_feed ∷ []))

-- the message of a reason why there is no answer
abbrev pub IsMessage : List ℕ → Sections → List ℕ → Reason → List ℕ → Type 0
IsMessage program sections input (Refused refusal) text =
    IsRefusalMessage program sections input (refusal_of refusal) text
IsMessage program sections input (Fault cause) text = text ≡ fault_text program cause
