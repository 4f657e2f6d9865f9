-- Worked examples of messages: the line that is shown, its number and its mark, and the words before it.
use Rattle.std.proofs.Common.{arith, ◌≡◌, ◌⊎◌, ◌∙◌, refl, sym, ap, subst, true, false, ℕ, List, [], ◌∷◌, ◌++◌, codes, length, map, min, Some, None}
use Rattle.std.proofs.Common.{◌-◌, drop, inl, inr, take}
use Rattle.std.specs.Prelude.{nat_lt, replicate, slice_index}
use Rattle.std.specs.Char.{is_ascii_alphabetic}
use Rattle.std.specs.List.{All, list_all, list_any}
use Rattle.std.proofs.lemmas.List.{append-nil}
use Rattle.std.specs.Fmt.{digits}
use Rattle.std.proofs.lemmas.Bool.{and_parts, both_ways}
use Rattle.std.proofs.lemmas.List.Elements.{All-nil, All-cons, All-head}
use Rattle.crib_cards.specs.CardText.{card_read}
use Rattle.crib_text.specs.Refusals.{Refusal}
use Rattle.crib_text.specs.Words.{lines_of, number_read, words_of}
use Rattle.crib_text.specs.declared.fault.TextCause.TheVariants.{BadCard}
use Rattle.crib_input.specs.declared.refusal.Cause.TheVariants.{Text}
use Rattle.crib_input.specs.declared.reason.FaultCause.TheVariants.{NoMemory, ReadFailed}
use Rattle.crib_input.specs.declared.reason.Reason.TheVariants.{Refused, Fault}
use Rattle.crib_input.specs.declared.sections.Sections.{Sections}
use Rattle.crib_input.specs.declared.sections.Sections.TheVariants as inputs
use Rattle.crib_message.specs.declared.scene.Spot.{Spot}
use Rattle.crib_message.specs.declared.scene.Section.TheVariants.{Problem, Plan, Game, Turns, After}
use Rattle.crib_message.specs.Message.{IsExcerpt, IsMark, IsMessage, IsRefusalMessage}
use Rattle.crib_message.specs.Message.{blanks, carets, dots, heading, hex_digit, is_card, is_number, is_of_word, is_plain}
use Rattle.crib_message.specs.Message.{is_refused, is_wrong, mark_line, marks_below, spot_words, touch}
use Rattle.crib_message.specs.Place.{numbered_line, spot_behind}
use Rattle.crib_message.specs.Message.{section_words, shown_byte, shown_line}

-- ---- the lines of an input
abbrev two_lines : List ℕ
two_lines = codes "own 2C\nopp go\n"

-- there is no line 0 and no line 9, and a last line that is cut short is a line
pub numbered_lines : numbered_line (codes "ab\ncd") 2 ∷ map (numbered_line two_lines) (1 ∷ 2 ∷ 0 ∷ 9 ∷ [])
    ≡ Some (codes "cd") ∷ Some (codes "own 2C") ∷ Some (codes "opp go") ∷ None ∷ None ∷ []
unfolding lines_of
numbered_lines = refl

-- ---- bytes: 31 and 127 are the control characters next to those that are shown as they are
pub plain_bytes : map is_plain (31 ∷ 32 ∷ 126 ∷ 127 ∷ []) ≡ false ∷ true ∷ true ∷ false ∷ []
plain_bytes = refl

pub shown_bytes : map shown_byte (65 ∷ 9 ∷ 255 ∷ 171 ∷ 240 ∷ []) ≡ codes "A" ∷ codes "\\x09" ∷ codes "\\xff" ∷ codes "\\xab" ∷ codes "\\xf0" ∷ []
shown_bytes = refl

-- ---- lines with their numbers: a whole line, one with a carriage return, two stretches of a line, and its end
pub shown_lines : shown_line 12 [] (codes "own 2C") [] ∷ shown_line 1 [] (codes "problem 1" ++ 13 ∷ []) []
    ∷ shown_line 8 (codes "0 see ") (codes "A:1") (codes " 2:1") ∷ shown_line 8 (codes "b") (codes "a") (codes "b")
    ∷ shown_line 8 (codes "0 see ") (codes "A:1") [] ∷ []
    ≡ codes "  12 | own 2C\n" ∷ codes "  1 | problem 1\\x0d\n" ∷ codes "  8 | ...A:1...\n" ∷ codes "  8 | ...a...\n" ∷ codes "  8 | ...A:1\n" ∷ []
unfolding digits
shown_lines = refl

-- the refusal of a line with a number
abbrev pub refusing : ℕ → ℕ → Refusal
refusing line number = record { line = line; number = number }

-- a whole line of at most 100 bytes, with a mark below a stretch of it
excerpt_of : (refusal : Refusal) (left meant right mark : List ℕ) → length (left ++ (meant ++ right)) ≡ min 100 (length (left ++ (meant ++ right))) →
    is_refused refusal.number left meant right ≡ true →
    mark ≡ mark_line refusal.line [] (take (length left - 0) (left ++ (meant ++ right)))
    (take (length meant) (drop (length left - 0) (left ++ (meant ++ right)))) →
    IsExcerpt refusal (left ++ (meant ++ right)) (shown_line refusal.line [] (left ++ (meant ++ right)) [] ++ mark)
excerpt_of refusal left meant right mark wide refused is = record {
  before = [];
  shown = left ++ (meant ++ right);
  after = [];
  mark = mark;
  cut = sym (append-nil (left ++ (meant ++ right)));
  wide = wide;
  is = refl;
  marks = inr (record {
    left = left;
    meant = meant;
    right = right;
    cut = refl;
    refused = refused;
    seen = omega arith;
    is = is;
  });
}

-- carets below a byte that is shown as four columns
pub an_excerpt : IsExcerpt (refusing 8 1) (codes "0 see A" ++ 255 ∷ codes " 2:1") (codes "  8 | 0 see A\\xff 2:1\n    |        ^^^^\n")
unfolding digits
an_excerpt = excerpt_of (refusing 8 1) (codes "0 see A") (255 ∷ []) (codes " 2:1") (codes "    |        ^^^^\n") refl refl refl

-- one caret behind the end of a line
pub behind_the_end : IsMark (refusing 12 4) (codes "own") [] (codes "own") (codes "     |    ^\n")
unfolding digits
behind_the_end = record {
  left = codes "own";
  meant = [];
  right = [];
  cut = refl;
  refused = refl;
  seen = omega arith;
  is = refl;
}

-- ---- what is refused
pub numbers_that_pass : map (is_number (nat_lt 120)) (codes "120" ∷ codes "121" ∷ codes "x" ∷ []) ≡ false ∷ true ∷ false ∷ []
unfolding number_read digits
numbers_that_pass = refl

pub cards_among_words : map is_card (codes "2C" ∷ codes "go" ∷ codes "10S" ∷ codes "2CC" ∷ []) ≡ true ∷ replicate 3 false
unfolding card_read
cards_among_words = refl

-- for each number some words behind the first one, of which some can be what is refused with it and others can't
pub wrong_words :
    (map (is_wrong 5) (codes "2X" ∷ codes "2CC" ∷ codes "2C" ∷ []) ≡ true ∷ true ∷ false ∷ [])
    × (map (is_wrong 6) (codes "33" ∷ codes "x" ∷ codes "32" ∷ codes "29" ∷ []) ≡ true ∷ true ∷ false ∷ false ∷ [])
    × (map (is_wrong 21) (codes "121" ∷ codes "130" ∷ codes "120" ∷ codes "x" ∷ []) ≡ true ∷ true ∷ false ∷ false ∷ [])
    × (map (is_wrong 30) (codes "0" ∷ codes "10" ∷ codes "end" ∷ codes "x" ∷ codes "00" ∷ codes "endd" ∷ []) ≡ replicate 3 true ++ replicate 3 false)
    × (map (is_wrong 31) (codes "A:1" ∷ codes ":1" ∷ codes "A:" ∷ codes "A1" ∷ []) ≡ replicate 3 true ++ false ∷ [])
unfolding number_read card_read digits
wrong_words = (refl, refl, refl, refl, refl)

-- a card, a number and other words by the number of the refusal. With some numbers no word is refused there
pub wrong_by_number :
    (map (λ number. is_wrong number (codes "x")) (4 ∷ 23 ∷ 24 ∷ 41 ∷ 42 ∷ 43 ∷ 45 ∷ 46 ∷ []) ≡ replicate 8 true)
    × (map (λ number. is_wrong number (codes "x")) (7 ∷ 22 ∷ 32 ∷ 20 ∷ 40 ∷ 1 ∷ 44 ∷ []) ≡ replicate 7 false)
    × (map (λ number. is_wrong number (codes "10")) (7 ∷ 22 ∷ 32 ∷ 20 ∷ 40 ∷ 44 ∷ []) ≡ replicate 3 true ++ replicate 3 false)
    × (map (λ number. is_wrong number (codes "00")) (7 ∷ 22 ∷ 32 ∷ []) ≡ replicate 3 false)
    × (map (λ number. is_wrong number (codes "2C")) (20 ∷ 40 ∷ 7 ∷ 22 ∷ 32 ∷ 44 ∷ []) ≡ replicate 2 true ++ replicate 4 false)
    × (is_wrong 20 (codes "2CC") ∷ is_wrong 50 (codes "A:1") ∷ map (is_wrong 1) (codes "2C" ∷ codes "130" ∷ codes "end" ∷ codes "A:1" ∷ []) ≡ replicate 6 false)
unfolding number_read card_read digits
wrong_by_number = (refl, refl, refl, refl, refl, refl)

-- bad bytes: a tab behind a letter, one with a blank, and two with a blank. No bad byte: a tab behind a tab, a letter, nothing, a tab with another number
pub refused_bytes :
    is_refused 1 (codes "a") (9 ∷ []) (codes "b") ∷ is_refused 1 [] (9 ∷ codes " ") [] ∷ is_refused 1 [] (9 ∷ 32 ∷ 9 ∷ []) []
    ∷ is_refused 1 (9 ∷ []) (9 ∷ []) [] ∷ is_refused 1 [] (codes "a") (9 ∷ []) ∷ is_refused 1 [] [] [] ∷ is_refused 0 [] (9 ∷ []) [] ∷ []
    ≡ replicate 3 true ++ replicate 4 false
refused_bytes = refl

-- the first word of a line, and the whole line
pub refused_beginnings :
    (map (λ number. is_refused number [] (codes "own") (codes " 2C")) (4 ∷ 6 ∷ 8 ∷ 44 ∷ 2 ∷ 5 ∷ 41 ∷ 45 ∷ 47 ∷ []) ≡ replicate 4 true ++ replicate 5 false)
    × (map (λ number. is_refused number [] (codes "own 2C") []) (47 ∷ 4 ∷ 50 ∷ []) ≡ true ∷ false ∷ false ∷ [])
    × (map (λ number. is_refused number (codes " ") (codes "x") []) (4 ∷ 5 ∷ 8 ∷ 47 ∷ []) ≡ true ∷ true ∷ false ∷ false ∷ [])
    × (map (λ number. is_refused number [] (codes "x") (codes " ")) (4 ∷ 47 ∷ []) ≡ true ∷ false ∷ [])
unfolding card_read
refused_beginnings = (refl, refl, refl, refl)

-- a word behind the first one, and the end of a line
pub refused_words :
    (map (λ number. is_refused number (codes "own ") (codes "2C") []) (4 ∷ 41 ∷ 8 ∷ 47 ∷ 44 ∷ 5 ∷ []) ≡ true ∷ true ∷ replicate 4 false)
    × (map (is_refused 5 (codes "own ") (codes "2CC")) ([] ∷ codes " " ∷ codes "x" ∷ []) ≡ true ∷ true ∷ false ∷ [])
    × (map (λ number. is_refused number (codes "own ") [] []) (3 ∷ 4 ∷ 2 ∷ 5 ∷ []) ≡ true ∷ true ∷ false ∷ false ∷ [])
    × (map (is_refused 4 (codes "own ") []) (codes " " ∷ codes "2C" ∷ []) ≡ replicate 2 false)
unfolding number_read card_read
refused_words = (refl, refl, refl, refl)

-- a blank too many, and two; a tab isn't one
pub refused_blanks :
    map (λ number. is_refused number (codes "own ") (codes " ") []) (4 ∷ 2 ∷ 41 ∷ []) ++ is_refused 4 (codes "own ") (codes "  ") []
    ∷ is_refused 5 (codes "own ") (9 ∷ []) [] ∷ [] ≡ true ∷ false ∷ false ∷ false ∷ true ∷ []
unfolding card_read
refused_blanks = refl

-- a part of a branch, and parts of words
pub refused_parts :
    is_refused 4 (codes "A") (codes ":2") [] ∷ is_refused 4 (codes "A") (codes "2") [] ∷ is_refused 4 (codes "A") (codes "2:") []
    ∷ is_refused 4 (codes "A") (codes "2:2") [] ∷ is_refused 4 (codes "1 1") (codes "0") [] ∷ is_refused 4 (codes " ") (codes "2") (codes "3 3")
    ∷ map (λ part. is_refused 4 (codes " ") part (codes "3")) (codes "2" ∷ codes ":2" ∷ codes "2:2" ∷ [])
    ≡ true ∷ replicate 8 false
refused_parts = refl

-- ---- headings
-- the spot of a line of a game
abbrev pub in_a_game : ℕ → Spot
in_a_game number = record { section = Game; number = number }

-- of a problem, of a plan, of a game, behind the sections, and without a line: line 0 is no line of the input
pub headings : heading (codes "cribplan") 5 (record { section = Problem; number = 5 }) ∷ heading (codes "cribsheet") 9 (record { section = Plan; number = 2 })
    ∷ heading (codes "cribplan") 14 (in_a_game 5) ∷ heading (codes "cribplan") 21 (record { section = After; number = 0 })
    ∷ heading (codes "cribplan") 0 (record { section = Problem; number = 0 }) ∷ heading (codes "cribsheet") 0 (record { section = After; number = 0 }) ∷ []
    ≡ codes "cribplan: line 5: " ∷ codes "cribsheet: line 9, line 2 of the plan: " ∷ codes "cribplan: line 14, line 5 of the game: "
    ∷ codes "cribplan: line 21: " ∷ codes "cribplan: " ∷ codes "cribsheet: " ∷ []
unfolding digits
headings = refl

-- ---- whole messages
pub all_plain : (bytes : List ℕ) → list_all is_plain bytes ≡ true → All (λ byte. is_plain byte ≡ true) bytes
all_plain [] all = All-nil (λ byte. is_plain byte ≡ true)
all_plain (byte ∷ bytes) all =
    let parts = and_parts (is_plain byte) (list_all is_plain bytes) all in
    All-cons (λ byte. is_plain byte ≡ true) byte bytes parts.0 (all_plain bytes parts.1)

pub a_card_with_10 :
    IsMessage (codes "cribplan") inputs.Problem (codes "problem 1\nhold 10S\n") (Refused (record { line = 2; cause = Text BadCard }))
    (codes "cribplan: line 2: \"10S\" is not a card.\n  2 | hold 10S\n    |      ^^^\n")
unfolding digits lines_of spot_behind number_read words_of card_read
a_card_with_10 = record {
  sentence = codes "\"10S\" is not a card.";
  excerpt = codes "  2 | hold 10S\n    |      ^^^\n";
  is = refl;
  plain = all_plain (codes "\"10S\" is not a card.") refl;
  worded = refl;
  shows = excerpt_of (refusing 2 5) (codes "hold ") (codes "10S") [] (codes "    |      ^^^\n") refl refl refl;
}

-- a fault shows no line
pub message_of_a_fault : IsMessage (codes "cribplan") inputs.Problem (codes "problem 1\n") (Fault NoMemory) (codes "cribplan: out of memory\n")
message_of_a_fault = refl

-- each fault has words of its own
pub message_of_another_fault : IsMessage (codes "cribplan") inputs.Problem (codes "problem 1\n") (Fault ReadFailed) (codes "cribplan: out of memory\n") → ⊥
message_of_another_fault is =
    (let byte : 111 ≡ 116 = ap (λ bytes. slice_index bytes 10) is in absurd (omega (arith, byte)))

-- ---- the parts of an excerpt
pub hexadecimal_digits : map hex_digit (0 ∷ 9 ∷ 10 ∷ 15 ∷ []) ≡ codes "09af"
hexadecimal_digits = refl

pub three_dots : map dots ([] ∷ codes "a" ∷ codes "ab" ∷ []) ≡ [] ∷ codes "..." ∷ codes "..." ∷ []
three_dots = refl

pub marks_below_bytes : map (marks_below 94) (31 ∷ 32 ∷ 126 ∷ 127 ∷ []) ≡ codes "^^^^" ∷ codes "^" ∷ codes "^" ∷ codes "^^^^" ∷ []
marks_below_bytes = refl

pub blanks_below_bytes : blanks (codes "a" ++ 9 ∷ codes "ab") ≡ replicate 7 32
blanks_below_bytes = refl

pub carets_below_bytes : map carets ([] ∷ codes "a" ∷ (codes "a" ++ 9 ∷ codes "aab") ∷ []) ≡ codes "^" ∷ codes "^" ∷ codes "^^^^^^^^" ∷ []
carets_below_bytes = refl

-- below the bar of a line of two digits is a bar, then three blanks for the dots, five for `a` and a tab, and the carets
pub mark_lines : mark_line 12 (codes "0") (codes "a" ++ 9 ∷ []) (codes "bab") ∷ mark_line 9 (codes "b") [] [] ∷ []
    ≡ (codes "     | " ++ (replicate 8 32 ++ codes "^^^\n")) ∷ codes "    |    ^\n" ∷ []
unfolding digits
mark_lines = refl

pub words_of_spots : spot_words (in_a_game 7) ∷ map (section_words 12) (Problem ∷ Plan ∷ Game ∷ Turns ∷ After ∷ [])
    ≡ codes ", line 7 of the game" ∷ [] ∷ codes ", line 12 of the plan" ∷ codes ", line 12 of the game" ∷ codes ", line 12 of the turns" ∷ [] ∷ []
unfolding digits
words_of_spots = refl

-- a word has both bytes. A blank, a colon and a tab are of no word, nor is what isn't there
pub stretches_that_touch :
    touch (codes "1") (codes "0") ∷ touch (codes " 1") (codes "0 ") ∷ touch (codes "1 ") (codes "0") ∷ touch (codes "1") (codes " 0")
    ∷ touch (codes "A") (codes ":2") ∷ touch (codes "A:") (codes "2") ∷ touch (codes "A") (9 ∷ []) ∷ touch [] (codes "A") ∷ touch (codes "A") []
    ∷ touch (codes "1 1") (codes "0") ∷ touch (codes "1") (codes "0 0") ∷ []
    ≡ true ∷ true ∷ (replicate 7 false ++ replicate 2 true)
stretches_that_touch = refl

pub bytes_of_words :
    map is_of_word (Some 33 ∷ Some 126 ∷ Some 32 ∷ Some 127 ∷ Some 58 ∷ Some 57 ∷ Some 59 ∷ None ∷ [])
    ≡ true ∷ true ∷ false ∷ false ∷ false ∷ true ∷ true ∷ false ∷ []
bytes_of_words = refl

-- ---- marks, excerpts and messages that are none
abbrev byte_of : List ℕ → ℕ
byte_of [] = 0
byte_of (byte ∷ bytes) = byte

pub nothing_is_no_message : (line input : List ℕ) → (IsMark (refusing 12 4) (codes "own") [] (codes "own") [] → ⊥) × (IsExcerpt (refusing 8 4) line [] → ⊥)
    × (IsMessage (codes "cribplan") inputs.Problem input (Refused (record { line = 2; cause = Text BadCard })) [] → ⊥)
    × (IsMessage (codes "cribplan") inputs.Problem input (Fault NoMemory) [] → ⊥)
nothing_is_no_message line input =
    (λ is. (let mark = is.is in cc), λ is. (let excerpt = is.is in cc), λ is. (let text = is.is in cc), λ is. cc)

-- a mark of the line `own`, which is not expected
abbrev pub IsOwnMark : List ℕ → Type 0
IsOwnMark mark = IsMark (refusing 12 4) (codes "own") [] (codes "own") mark

pub mark_of_another_line : (mark : List ℕ) (is : IsOwnMark mark) → is.left ≡ codes "x" → ⊥
mark_of_another_line mark is e =
    (let byte : 111 ≡ 120 = ap byte_of (is.cut ∙ ap (λ left. left ++ (is.meant ++ is.right)) e) in absurd (omega (arith, byte)))

-- a mark below another word than the one that is no card, and one that begins before what is shown
pub mark_of_a_card : (line before shown mark : List ℕ) (is : IsMark (refusing 5 5) line before shown mark) →
    is.left ≡ codes "hold " → is.meant ≡ codes "2C" → is.right ≡ codes " 2X" → ⊥
unfolding card_read
mark_of_a_card line before shown mark is e f g = absurd (both_ways false refl (rw (e, f, g) at is.refused))

pub mark_before_the_excerpt : (shown mark : List ℕ) (is : IsMark (refusing 12 4) (codes "own") (codes "o") shown mark) → is.left ≡ [] → ⊥
mark_before_the_excerpt shown mark is e = absurd (omega (arith, is.seen, ap length e))

-- a line of 105 bytes, of which the first two and the last three are left out
abbrev long_line : List ℕ
long_line = codes "a " ++ (replicate 100 120 ++ codes "cde")

hundred_of : (mark : List ℕ) → (mark ≡ []) ⊎ IsMark (refusing 8 4) long_line (codes "a ") (replicate 100 120) mark →
    IsExcerpt (refusing 8 4) long_line ((codes "  8 | ..." ++ (replicate 100 120 ++ codes "...\n")) ++ mark)
unfolding digits
hundred_of mark marks =
    record { before = codes "a "; shown = replicate 100 120; after = codes "cde"; mark = mark; cut = refl; wide = refl; is = refl; marks = marks }

-- without a mark, and with a mark below all bytes that are shown of a word
pub a_hundred_bytes : IsExcerpt (refusing 8 4) long_line (codes "  8 | ..." ++ (replicate 100 120 ++ codes "...\n"))
    × IsExcerpt (refusing 8 4) long_line (codes "  8 | ..." ++ (replicate 100 120 ++ codes "...\n") ++ (codes "    |    " ++ (replicate 100 94 ++ codes "\n")))
unfolding digits
a_hundred_bytes = (
  hundred_of [] (inl refl),
  hundred_of (codes "    |    " ++ (replicate 100 94 ++ codes "\n"))
      (inr (record {
        left = codes "a ";
        meant = replicate 100 120 ++ codes "cde";
        right = [];
        cut = refl;
        refused = refl;
        seen = omega arith;
        is = refl;
      })),
)

pub excerpt_of_another_line : (excerpt : List ℕ) (is : IsExcerpt (refusing 8 4) (codes "own") excerpt) → is.before ≡ codes "x" → ⊥
excerpt_of_another_line excerpt is e =
    (let byte : 111 ≡ 120 = ap byte_of (is.cut ∙ ap (λ before. before ++ (is.shown ++ is.after)) e) in absurd (omega (arith, byte)))

pub two_bytes_of_three : (excerpt : List ℕ) (is : IsExcerpt (refusing 8 4) (codes "own") excerpt) → is.shown ≡ codes "ow" → ⊥
two_bytes_of_three excerpt is e = (let wide : 2 ≡ 3 = sym (ap length e) ∙ is.wide in absurd (omega (arith, wide)))

pub more_than_a_hundred_bytes : (excerpt : List ℕ) (is : IsExcerpt (refusing 8 4) (replicate 101 120) excerpt) → is.shown ≡ replicate 101 120 → ⊥
more_than_a_hundred_bytes excerpt is e = (let wide : 101 ≡ 100 = sym (ap length e) ∙ is.wide in absurd (omega (arith, wide)))

pub another_mark : (excerpt : List ℕ) (is : IsExcerpt (refusing 8 4) (codes "own") excerpt) → is.mark ≡ codes "x" → ⊥
another_mark excerpt is e = by is.marks
  where
    by : (is.mark ≡ []) ⊎ IsMark (refusing 8 4) (codes "own") is.before is.shown is.mark → ⊥
    by (inl none) = (let byte : 120 ≡ 0 = ap byte_of (sym e ∙ none) in absurd (omega (arith, byte)))
    by (inr mark) = (let byte : 120 ≡ 32 = ap byte_of (sym e ∙ mark.is) in absurd (omega (arith, byte)))

pub tab_in_a_sentence : (sentence : List ℕ) → All (λ byte. is_plain byte ≡ true) sentence → sentence ≡ 9 ∷ [] → ⊥
tab_in_a_sentence sentence plain e =
    absurd (both_ways false refl (All-head (λ byte. is_plain byte ≡ true) 9 [] (subst (All (λ byte. is_plain byte ≡ true)) e plain)))

pub tab_in_a_message : (program input text : List ℕ) (sections : Sections) (refusal : Refusal)
    (is : IsRefusalMessage program sections input refusal text) → is.sentence ≡ 9 ∷ [] → ⊥
tab_in_a_message program input text sections refusal is = tab_in_a_sentence is.sentence is.plain

-- a sentence has a word
pub no_sentence_of_signs : (program input text : List ℕ) (sections : Sections) (refusal : Refusal)
    (is : IsRefusalMessage program sections input refusal text) → is.sentence ≡ codes "-" → ⊥
no_sentence_of_signs program input text sections refusal is e =
    both_ways false refl (subst (λ sentence. list_any is_ascii_alphabetic sentence ≡ true) e is.worded)

-- the input has no line 9, and its line 2 is shown
pub excerpt_of_no_line : (program text : List ℕ) (sections : Sections)
    (is : IsRefusalMessage program sections two_lines (refusing 9 4) text) → is.excerpt ≡ codes "x" → ⊥
unfolding lines_of
excerpt_of_no_line program text sections is e = (let none : codes "x" ≡ [] = sym e ∙ is.shows in cc)

pub line_without_an_excerpt : (program text : List ℕ) (sections : Sections)
    (is : IsRefusalMessage program sections two_lines (refusing 2 4) text) → is.excerpt ≡ [] → ⊥
unfolding lines_of
line_without_an_excerpt program text sections is e = (let excerpt = sym e ∙ is.shows.is in cc)
