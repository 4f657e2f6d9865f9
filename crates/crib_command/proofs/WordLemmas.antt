-- clap's parser refuses the words that `specs/Command` refuses, and finds the name of the command in the others.
use Rattle.std.proofs.Common.{Option, None, ◌≡◌, ◌∙◌, ℕ, List, [], ◌∷◌, Bool, true, false, Some, length}
use Rattle.std.proofs.Common.{refl, sym, subst, ap, ap₂, arith, codes, fold, drop, is_some}
use Rattle.std.specs.Prelude.{option_map, slice_get, option_and_then, if◌then◌else◌}
use Rattle.std.specs.List.{list_any}
use Rattle.std.specs.Option.{option_map_or}
use Rattle.std.specs.Str.{chars}
use Rattle.std.specs.Borrow.{Bor}
use Rattle.std.proofs.lemmas.Bool.{or_parts}
use Rattle.std.proofs.lemmas.Slice.Eq.{bytes_eq-Decides}
use Rattle.clap.specs.Faults.{bundle_fault, bundle_step_fault, check_fault, defaults_fault, entered_fault, fault_of, flag_word_fault, flags_fault}
use Rattle.clap.specs.Faults.{long_fault, react_fault, settle_fault, short_fault, step_fault, turn_fault, walk_fault, word_fault}
use Rattle.clap.specs.Kinds.{Kinds}
use Rattle.clap.specs.Kinds.{or_else as then_kinds}
use Rattle.clap.specs.Lexer.{long_of, short_of, strip_byte}
use Rattle.clap.specs.Simple.{App, built, entered, matches_of}
use Rattle.clap.specs.Walk.{Text, Rule, Held, Step, Walk, after_flag, after_step, arg_by_long, arg_by_short, bundle_met, bundle_step}
use Rattle.clap.specs.Walk.{finished, idle, long_or_other, one_of}
use Rattle.clap.specs.Walk.{plain, settled, short_or_plain, short_word, value, walked, word_met}
use Rattle.clap.specs.declared.builder.possible_value.PossibleValue.{PossibleValue}
use Rattle.clap.specs.declared.builder.value_parser.ValueParser.TheVariants.{Values}
use Rattle.clap.specs.declared.error.kind.ErrorKind.{ErrorKind}
use Rattle.clap.specs.declared.error.kind.ErrorKind.TheVariants.{DisplayHelp, InvalidValue, UnknownArgument}
use Rattle.crib_command.specs.Command.{IsCommandWords, end_refusal, has_hyphen, help_refusal, is_command, is_mark, is_wrong, long_refusal, option_refusal}
use Rattle.crib_command.specs.Command.{first_of, plain_refusal, refusal_from, words_refusal, short_refusal, without_mark}
use Rattle.crib_command.specs.Private.Command.{AreValuesOf}
use Rattle.crib_command.proofs.ClapApp.{command_app, help_flag}

-- a refusal as clap's definitions have it: a list of at most one kind
abbrev pub kinds_of : Option ErrorKind → Kinds
kinds_of None = []
kinds_of (Some kind) = kind ∷ []

-- the words in which the name of a command is looked for: the name that was read before, if there is one, and the words that are left, without the first `--`
abbrev pub left_of : Bool → List Text → List Text
left_of true words = words
left_of false words = without_mark words

abbrev pub left : Bool → Option Text → List Text → List Text
left ended None words = left_of ended words
left ended (Some name) words = name ∷ left_of ended words

module _ (program : Text) (names : List Text) (values : Bor (List PossibleValue)) (listed : AreValuesOf names values.now) where
  abbrev app : App
  app = built (command_app program (Values values))

  abbrev rules : List Rule
  rules = app.top.rules

  abbrev held : Option Text → Held
  held name = record { rows = []; pending = option_map (λ word. (codes "command", word ∷ [])) name; skip = 0 }

  abbrev place : Option Text → ℕ
  place None = 1
  place (Some word) = 2

  -- where clap's walk is, by whether a `--` came before and the name that was read
  abbrev at : Bool → Option Text → Walk
  at ended name = record { held = held name; waiting = idle; position = place name; is_trailing = ended; stopped = None }

  abbrev walk_on : Walk → List Text → Walk
  walk_on w words = fold (walked rules []) w words

  abbrev ending : Walk → Kinds
  ending end = then_kinds (entered_fault app end.stopped)
      (then_kinds (settle_fault rules false end.held) (then_kinds (defaults_fault (settled rules end.held).rows rules)
      (check_fault app.top (finished rules end.held) (is_some (entered app end.stopped)))))

  -- the kinds of error that a walk meets in some words
  abbrev from : Walk → List Text → Kinds
  from w words = then_kinds (walk_fault app.top [] w words) (ending (walk_on w words))

  step : (w next : Walk) (word : Text) (rest : List Text) → turn_fault app.top [] w word ≡ [] → walked rules [] w word ≡ next
      → from w (word ∷ rest) ≡ from next rest
  unfolding walk_fault
  step w next word rest passes is =
      ap₂ (λ k v. then_kinds (then_kinds k (walk_fault app.top [] v rest)) (ending (walk_on v rest))) passes is

  stop : (w : Walk) (word : Text) (rest : List Text) (kind : ErrorKind) → turn_fault app.top [] w word ≡ kind ∷ []
      → from w (word ∷ rest) ≡ kind ∷ []
  unfolding walk_fault
  stop w word rest kind fails =
      ap (λ k. then_kinds (then_kinds k (walk_fault app.top [] (walked rules [] w word) rest)) (ending (walk_on (walked rules [] w word) rest))) fails

  -- clap refuses a wrong name when it settles the value
  settles : (name : Option Text) → settle_fault rules false (held name) ≡ (if is_wrong names name then InvalidValue ∷ [] else [])
  settles None = refl
  settles (Some word) = grind (arith, listed word)

  helps : (name : Option Text) → react_fault rules false help_flag [] (held name) ≡ help_refusal names name ∷ []
  helps name = ap (λ k. then_kinds k (DisplayHelp ∷ [])) (settles name) ∙ grind arith

  long_fails : (name : Option Text) (option : Text × Option Text)
      → long_fault rules false (arg_by_long rules option.0) option.1 (held name) ≡ long_refusal names name option ∷ []
  long_fails name option = grind (arith, helps name)

  short_fails : (name : Option Text) (letter : ℕ) (rest : Text) (next : Held → Kinds)
      → short_fault rules false (arg_by_short rules letter) rest (held name) next ≡ short_refusal names name letter ∷ []
  short_fails name letter rest next = grind (arith, helps name)

  letters_fail : (name : Option Text) (letters : Text)
      → bundle_fault rules false letters (held name)
      ≡ kinds_of (option_map_or (λ letter. Some (short_refusal names name letter)) (slice_get (chars letters) 0) None)
  unfolding flags_fault chars
  letters_fail name [] = refl
  letters_fail name (x ∷ xs) = go (slice_get (chars (x ∷ xs)) 0)
    where
      go : (o : Option ℕ) → bundle_step_fault rules false o (x ∷ xs) 0 (held name) (flags_fault rules false (length xs))
          ≡ kinds_of (option_map_or (λ letter. Some (short_refusal names name letter)) o None)
      go None = refl
      go (Some letter) = short_fails name letter _ _

  -- clap's refusal of a word that is not `--`
  word_fails : (name : Option Text) (word : Text) → is_mark word ≡ false
      → word_fault app.top [] false idle word (held name) ≡ kinds_of (option_refusal names name word)
  word_fails name word mark = rw mark (go (long_of word))
    where
      shorts : (o : Option Text) → option_map_or (λ letters. bundle_fault rules false letters (held name)) o []
          ≡ kinds_of (option_map_or (λ letter. Some (short_refusal names name letter)) (option_and_then (λ letters. slice_get (chars letters) 0) o) None)
      shorts None = refl
      shorts (Some letters) = letters_fail name letters

      go : (o : Option (Text × Option Text)) → flag_word_fault rules false o word (held name)
          ≡ kinds_of (option_map_or (λ option. Some (long_refusal names name option)) o
          (option_map_or (λ letter. Some (short_refusal names name letter)) (option_and_then (λ letters. slice_get (chars letters) 0) (short_of word)) None))
      go None = shorts (short_of word)
      go (Some option) = long_fails name option

  letters_plain : (name : Option Text) (word letters : Text)
      → option_map_or (λ letter. Some (short_refusal names name letter)) (slice_get (chars letters) 0) None ≡ None
      → short_word rules idle word letters (held name) ≡ (held name, value)
  unfolding bundle_met chars
  letters_plain name word [] e = refl
  letters_plain name word (x ∷ xs) e = go (slice_get (chars (x ∷ xs)) 0) e
    where
      go : (o : Option ℕ) → option_map_or (λ letter. Some (short_refusal names name letter)) o None ≡ None
          → after_flag rules idle word (bundle_step rules o (x ∷ xs) 0 plain (held name) (bundle_met rules (length xs))).0
          (bundle_step rules o (x ∷ xs) 0 plain (held name) (bundle_met rules (length xs))).1 ≡ (held name, value)
      go None e = refl
      go (Some letter) e = cc

  -- a word that is no option is a value
  plain_met : (name : Option Text) (word : Text) → is_mark word ≡ false → option_refusal names name word ≡ None
      → word_met rules [] false idle (place name) word (held name) ≡ (held name, value)
  plain_met name word mark none = rw mark (go (long_of word) none)
    where
      shorts : (o : Option Text)
          → option_map_or (λ letter. Some (short_refusal names name letter)) (option_and_then (λ letters. slice_get (chars letters) 0) o) None ≡ None
          → short_or_plain rules idle word o (held name) ≡ (held name, value)
      shorts None e = refl
      shorts (Some letters) e = letters_plain name word letters e

      go : (o : Option (Text × Option Text)) → option_map_or (λ option. Some (long_refusal names name option)) o
          (option_map_or (λ letter. Some (short_refusal names name letter)) (option_and_then (λ letters. slice_get (chars letters) 0) (short_of word)) None)
          ≡ None
          → long_or_other rules idle word o (held name) ≡ (held name, value)
      go None e = shorts (short_of word) e
      go (Some option) e = cc

  -- a word that is no option is the name of a command, or it is refused if a name was read before
  turns : (name : Option Text) (word : Text) → is_mark word ≡ false → option_refusal names name word ≡ None
      → turn_fault app.top [] (at false name) word ≡ (if is_some name then UnknownArgument ∷ [] else [])
  turns name word mark none =
      ap₂ (λ k (met : Held × Step). then_kinds k (step_fault app.top (place name) met.0 met.1))
      (word_fails name word mark ∙ ap kinds_of none) (plain_met name word mark none) ∙ grind arith

  walks : (word : Text) → is_mark word ≡ false → option_refusal names None word ≡ None → walked rules [] (at false None) word ≡ at false (Some word)
  unfolding walked
  walks word mark none = ap (λ (met : Held × Step). after_step rules word (at false None) met.0 met.1) (plain_met None word mark none)

  walked_trailing : (word : Text) → walked rules [] (at true None) word ≡ at true (Some word)
  unfolding walked
  walked_trailing word = refl

  mark_turns : (name : Option Text) (word : Text) → is_mark word ≡ true → turn_fault app.top [] (at false name) word ≡ []
  mark_turns name word mark = rw mark refl

  mark_walks : (name : Option Text) (word : Text) → is_mark word ≡ true → walked rules [] (at false name) word ≡ at true name
  unfolding walked
  mark_walks name word mark = rw mark refl

  ends : (ended : Bool) (name : Option Text) → ending (at ended name) ≡ kinds_of (end_refusal names name)
  unfolding defaults_fault
  ends ended None = refl
  ends ended (Some word) = ap (λ k. then_kinds k []) (settles (Some word)) ∙ grind arith

  -- clap's kinds of error are those of the refusal
  agrees : (words : List Text) (ended : Bool) (name : Option Text) → from (at ended name) words ≡ kinds_of (refusal_from names words ended name)
  unfolding refusal_from walk_fault
  agrees [] ended name = ends ended name
  agrees (word ∷ rest) true None =
      step (at true None) (at true (Some word)) word rest refl (walked_trailing word) ∙ agrees rest true (Some word)
  agrees (word ∷ rest) true (Some name) = stop (at true (Some name)) word rest UnknownArgument refl
  agrees (word ∷ rest) false name = go (is_mark word) refl (option_refusal names name word) refl (agrees rest)
    where
      go : (m : Bool) → is_mark word ≡ m → (o : Option ErrorKind) → option_refusal names name word ≡ o
          → ((ended : Bool) (n : Option Text) → from (at ended n) rest ≡ kinds_of (refusal_from names rest ended n))
          → from (at false name) (word ∷ rest) ≡ kinds_of (if m then refusal_from names rest true name
          else first_of o (plain_refusal name word (refusal_from names rest false)))
      go true mark o is rec = step (at false name) (at true name) word rest (mark_turns name word mark) (mark_walks name word mark) ∙ rec true name
      go false mark (Some kind) is rec = stop (at false name) word rest kind
          (let met = word_met rules [] false idle (place name) word (held name) in
          ap (λ k. then_kinds k (step_fault app.top (place name) met.0 met.1))
          (word_fails name word mark ∙ ap kinds_of is))
      go false mark None is rec = plains name mark is (rec false)
        where
          plains : (n : Option Text) → is_mark word ≡ false → option_refusal names n word ≡ None
              → ((k : Option Text) → from (at false k) rest ≡ kinds_of (refusal_from names rest false k))
              → from (at false n) (word ∷ rest) ≡ kinds_of (plain_refusal n word (refusal_from names rest false))
          plains None mark is rec = step (at false None) (at false (Some word)) word rest (turns None word mark is) (walks word mark is) ∙ rec (Some word)
          plains (Some first) mark is rec = stop (at false (Some first)) word rest UnknownArgument (turns (Some first) word mark is)

  pub fault_is : (words : List Text) → fault_of (command_app program (Values values)) words ≡ kinds_of (words_refusal names words)
  fault_is words = agrees (drop 1 words) false None

  -- if no word is refused, one word is left, it is the name of a command, and clap finds it
  abbrev Finds : Walk → List Text → Type 0
  Finds w words = (word : Text) × (words ≡ word ∷ []) × (is_command names word ≡ true) × (one_of (codes "command") (finished rules w.held) ≡ Some word)

  finds : (words : List Text) (ended : Bool) (name : Option Text) → refusal_from names words ended name ≡ None
      → Finds (walk_on (at ended name) words) (left ended name words)
  unfolding refusal_from without_mark
  finds [] ended None e = cc
  finds [] ended (Some word) e = (word, grind arith, grind (arith, e), refl)
  finds (word ∷ rest) true None e = subst (λ w. Finds (walk_on w rest) (word ∷ rest)) (sym (walked_trailing word)) (finds rest true (Some word) e)
  finds (word ∷ rest) true (Some name) e = cc
  finds (word ∷ rest) false name e = go (is_mark word) refl (option_refusal names name word) refl (finds rest) e
    where
      go : (m : Bool) → is_mark word ≡ m → (o : Option ErrorKind) → option_refusal names name word ≡ o
          → ((ended : Bool) (n : Option Text) → refusal_from names rest ended n ≡ None → Finds (walk_on (at ended n) rest) (left ended n rest))
          → (if m then refusal_from names rest true name else first_of o (plain_refusal name word (refusal_from names rest false))) ≡ None
          → Finds (walk_on (at false name) (word ∷ rest)) (left false name (word ∷ rest))
      go true mark o is rec e = subst (λ w. Finds (walk_on w rest) (left false name (word ∷ rest))) (sym (mark_walks name word mark))
          (subst (λ ws. Finds (walk_on (at true name) rest) ws) (marked name) (rec true name e))
        where
          marked : (n : Option Text) → left true n rest ≡ left false n (word ∷ rest)
          marked None = rw mark refl
          marked (Some first) = rw mark refl
      go false mark (Some kind) is rec e = cc
      go false mark None is rec e = plains name mark is (rec false) e
        where
          plains : (n : Option Text) → is_mark word ≡ false → option_refusal names n word ≡ None
              → ((k : Option Text) → refusal_from names rest false k ≡ None → Finds (walk_on (at false k) rest) (left false k rest))
              → plain_refusal n word (refusal_from names rest false) ≡ None → Finds (walk_on (at false n) (word ∷ rest)) (left false n (word ∷ rest))
          plains None mark is rec e = subst (λ w. Finds (walk_on w rest) (left false None (word ∷ rest))) (sym (walks word mark is))
              (rw mark (rec (Some word) e))
          plains (Some first) mark is rec e = cc

  pub found_word : (words : List Text) → words_refusal names words ≡ None
      → (word : Text) × (without_mark (drop 1 words) ≡ word ∷ []) × (is_command names word ≡ true)
      × (one_of (codes "command") (matches_of (command_app program (Values values)) words) ≡ Some word)
  found_word words e = finds (drop 1 words) false None e

-- ---- words that name a command are not refused

-- a command's name has no hyphen at its front
plain_name : (names : List Text) (name : Text) → list_any has_hyphen names ≡ false → is_command names name ≡ true → strip_byte 45 name ≡ None
plain_name [] name bare named = cc
plain_name (first ∷ names) name bare named =
    let parts = or_parts (has_hyphen first) (list_any has_hyphen names) bare in
    grind (arith, parts.0, named, (bytes_eq-Decides first name).0, plain_name names name parts.1)

name_is_plain : (names : List Text) (name : Text) → strip_byte 45 name ≡ None → option_refusal names None name ≡ None
unfolding chars
name_is_plain names name bare = rw bare refl

name_is_named : (names : List Text) (name : Text) → is_command names name ≡ true → end_refusal names (Some name) ≡ None
name_is_named names name named = rw named refl

takes : (names : List Text) (name : Text) → list_any has_hyphen names ≡ false → is_command names name ≡ true → (words : List Text) (ended : Bool)
    (before : Option Text) → left ended before words ≡ name ∷ [] → refusal_from names words ended before ≡ None
unfolding refusal_from without_mark
takes names name bare named [] true None e = cc
takes names name bare named [] false None e = cc
takes names name bare named [] ended (Some word) e = let is : word ≡ name = cc in rw is (name_is_named names name named)
takes names name bare named (word ∷ rest) true None e = takes names name bare named rest true (Some word) e
takes names name bare named (word ∷ rest) true (Some before) e = cc
takes names name bare named (word ∷ rest) false None e =
    let plain = name_is_plain names name (plain_name names name bare named) in
    grind (arith, e, plain, takes names name bare named rest true None, takes names name bare named rest false (Some word))
takes names name bare named (word ∷ rest) false (Some before) e = grind (arith, e, takes names name bare named rest true (Some before))

-- words that name a command are not refused
pub command_words_taken : (names words : List Text) (name : Text) → list_any has_hyphen names ≡ false → IsCommandWords names words name
    → words_refusal names words ≡ None
command_words_taken names words name bare is = takes names name bare is.listed (drop 1 words) false None is.only
