-- Forms: a reader, and how the values that it reads are spelled. Where forms are put together, what holds of each holds of the whole.
use Rattle.std.proofs.Common.{rules}
use Rattle.std.proofs.Common.{◌≡◌, ℕ, zero, suc, ◌+◌, ◌-◌, ◌<◌, ◌≤◌, ◌↔◌, true, List, [], ◌∷◌, ◌++◌, length, map, Result, Ok, Err, codes, refl, sym, ap}
use Rattle.std.proofs.Common.{subst, ◌∙◌, ◌^◌, ◌*◌, decimal, append_assoc, arith}
use Rattle.std.proofs.Math.Nat.{mul-suc}
use Rattle.std.specs.Prelude.{nat_le}
use Rattle.std.proofs.lemmas.Bool.{leb-true, le-leb}
use Rattle.std.specs.List.{AllByRecursion, list_all}
use Rattle.std.proofs.lemmas.List.{append-nil, length-append, map-append}
use Rattle.std.proofs.lemmas.List.Folds.{list_all-append}
use Rattle.crib_text.specs.Refusals.{Refusal}
use Rattle.std.proofs.lemmas.Fmt.{length-decimal-le}
use Rattle.crib_text.specs.Spelling.{line_bytes, line_text, lines_text}
use Rattle.crib_text.specs.Reading.{◌>>=◌, Rest, value_at, unless_refused, after_keyword, only_word, number_in, header_in}
use Rattle.crib_text.specs.Forms.{each_in, values_at}
use Rattle.crib_text.proofs.SpellingLemmas.{is_word, are_words, is_word-decimal}
use Rattle.crib_text.proofs.ReadingLemmas.{bind_ok, ok_is, unless_ok, value_found, front_line, after_found, only_found, number_found, header_found}
use Rattle.crib_text.proofs.ReadingLemmas.{value_spelled, after_spelled, only_spelled, number_spelled, header_spelled}
use Rattle.crib_text.proofs.TextLengths.{words_length, length-line_text, length-lines_text}
use Rattle.crib_text.proofs.SteadyReaders.{IsSteady, from_line, steady_ok, steady_after, steady_then, steady_value}

-- ---- words

-- a word is read as a value exactly where it is the word of that value, which has at most so many bytes
pub record IsWordForm {A : Type 0} (read : List ℕ → Result A ℕ) (word : A → List ℕ) (is : A → Type 0) (most : ℕ) : Type 0 where
  pub found : (given : List ℕ) (value : A) → read given ≡ Ok value → (given ≡ word value) × is value
  pub spelled : (value : A) → is value → read (word value) ≡ Ok value
  pub full : (value : A) → is value → is_word (word value) ≡ true
  pub short : (value : A) → is value → length (word value) ≤ most

-- the same of some words. Each takes one byte more, for what is behind it
pub record AreWordsForm {A : Type 0} (read : List (List ℕ) → Result A ℕ) (words : A → List (List ℕ)) (is : A → Type 0) (most : A → ℕ) : Type 0 where
  pub found : (given : List (List ℕ)) (value : A) → read given ≡ Ok value → (given ≡ words value) × is value
  pub spelled : (value : A) → is value → read (words value) ≡ Ok value
  pub full : (value : A) → is value → list_all is_word (words value) ≡ true
  pub short : (value : A) → is value → words_length (words value) ≤ most value

-- the same form, where what is well formed is said otherwise. The bound may be wider
pub words_as : {A : Type 0} {read : List (List ℕ) → Result A ℕ} {words : A → List (List ℕ)} {is are : A → Type 0} {most wider : A → ℕ}
    → AreWordsForm read words is most → ((value : A) → is value → are value) → ((value : A) → are value → is value)
    → ((value : A) → are value → most value ≤ wider value) → AreWordsForm read words are wider
words_as form to from within = record {
  found = λ given value e. let one = form.found given value e in (one.0, to value one.1);
  spelled = λ value is. form.spelled value (from value is);
  full = λ value is. form.full value (from value is);
  short = λ value is. omega (arith, form.short value (from value is), within value is);
}

-- a keyword, and then so many words
pub keyword_form : {A : Type 0} {read : List (List ℕ) → Result A ℕ} {words : A → List (List ℕ)} {is : A → Type 0} {most : A → ℕ} (keyword : List ℕ)
    (count : ℕ) → is_word keyword ≡ true → AreWordsForm read words is most
    → AreWordsForm (λ given. after_keyword keyword count given >>= read) (λ value. keyword ∷ words value) (λ value. (length (words value) ≡ count) × is value)
    (λ value. length keyword + 1 + most value)
keyword_form {read = read} {words = words} keyword count is_keyword form = record {
  found = λ given value e.
      let a = bind_ok (after_keyword keyword count given) read value e in
      let after = after_found keyword count given a.0 a.1 in
      let rest = form.found a.0 value a.2 in
      (after.0 ∙ ap (λ ws. keyword ∷ ws) rest.0, (sym (ap length rest.0) ∙ after.1, rest.1));
  spelled = λ value is. rw (after_spelled keyword count (words value) is.0) (form.spelled value is.1);
  full = λ value is. rw (is_keyword, form.full value is.1) refl;
  short = λ value is. omega (arith, form.short value is.1);
}

-- a number that is at most so much; a greater one is refused
pub most_form : (refused most digits : ℕ) → most < 2 ^ 32 → 0 < digits → most < 10 ^ digits →
    IsWordForm (λ word. number_in word >>= λ n. unless_refused refused (nat_le n most) >>= λ _. Ok n) decimal (λ n. n ≤ most) digits
most_form refused most digits small some enough = record {
  found = λ given n e.
      let a = bind_ok (number_in given) _ n e in
      let b = bind_ok (unless_refused refused (nat_le a.0 most)) _ n a.2 in
      let few : a.0 ≤ most = leb-true a.0 most (unless_ok _ refused b.0 b.1) in
      subst (λ k. (given ≡ decimal k) × (k ≤ most)) (ok_is a.0 n b.2) ((number_found given a.0 a.1).0, few);
  spelled = λ n few. rw (number_spelled n (omega (arith, few, small)), le-leb n most few) refl;
  full = λ n few. is_word-decimal n (omega (arith, few, small));
  short = λ n few. length-decimal-le digits n some (omega (arith, few, enough)) (omega (arith, few, small));
}

-- a keyword, and then one word
pub named_form : {A : Type 0} {read : List ℕ → Result A ℕ} {word : A → List ℕ} {is : A → Type 0} {most : ℕ} (keyword : List ℕ) →
    is_word keyword ≡ true → IsWordForm read word is most
    → AreWordsForm (λ given. after_keyword keyword 1 given >>= λ words. only_word words >>= read) (λ value. keyword ∷ word value ∷ []) is
    (λ value. length keyword + 1 + (most + 1))
named_form {word = word} keyword is_keyword form = record {
  found = λ given value e.
      let a = bind_ok (after_keyword keyword 1 given) _ value e in
      let b = bind_ok (only_word a.0) _ value a.2 in
      let one = form.found b.0 value b.2 in (
        (after_found keyword 1 given a.0 a.1).0 ∙ ap (λ ws. keyword ∷ ws) (only_found a.0 b.0 b.1) ∙ ap (λ w. keyword ∷ w ∷ []) one.0,
        one.1,
      );
  spelled = λ value is. rw (after_spelled keyword 1 (word value ∷ []) refl, only_spelled (word value)) (form.spelled value is);
  full = λ value is. rw (is_keyword, form.full value is) refl;
  short = λ value is. omega (arith, form.short value is);
}

-- a word for each of some values
pub each_form : {A : Type 0} {read : List ℕ → Result A ℕ} {word : A → List ℕ} {is : A → Type 0} {most : ℕ} → IsWordForm read word is most
    → AreWordsForm (each_in read) (map word) (AllByRecursion is) (λ values. (most + 1) * length values)
unfolding each_in
each_form {A = A} {read = read} {word = word} {is = is} {most = most} form = record { found = found; spelled = spelled; full = full; short = short }
  where
    found : (given : List (List ℕ)) (values : List A) → each_in read given ≡ Ok values → (given ≡ map word values) × AllByRecursion is values
    found [] values e = subst (λ (vs : List A). ([] ≡ map word vs) × AllByRecursion is vs) (ok_is [] values e) (refl, tt)
    found (one ∷ given) values e =
        let a = bind_ok (read one) _ values e in
        let b = bind_ok (each_in read given) _ values a.2 in
        let first = form.found one a.0 a.1 in
        let rest = found given b.0 b.1 in
        subst (λ (vs : List A). (one ∷ given ≡ map word vs) × AllByRecursion is vs) (ok_is (a.0 ∷ b.0) values b.2)
        (ap (λ w. w ∷ given) first.0 ∙ ap (λ ws. word a.0 ∷ ws) rest.0, (first.1, rest.1))

    spelled : (values : List A) → AllByRecursion is values → each_in read (map word values) ≡ Ok values
    spelled [] all = refl
    spelled (value ∷ values) all = rw (form.spelled value all.0, spelled values all.1) refl

    full : (values : List A) → AllByRecursion is values → list_all is_word (map word values) ≡ true
    full [] all = refl
    full (value ∷ values) all = rw (form.full value all.0, full values all.1) refl

    short : (values : List A) → AllByRecursion is values → words_length (map word values) ≤ (most + 1) * length values
    short [] all = omega arith
    short (value ∷ values) all = omega (arith, form.short value all.0, short values all.1, mul-suc (most + 1) (length values))

-- the first line of a section
pub header_form : (name : List ℕ) → is_word name ≡ true → AreWordsForm (header_in name) (λ _. name ∷ codes "1" ∷ []) (λ _. Unit {0}) (λ _. length name + 3)
header_form name is_name = record {
  found = λ given value e. (header_found name given value e, tt);
  spelled = λ value is. header_spelled name;
  full = λ value is. rw is_name refl;
  short = λ value is. omega arith;
}

-- ---- lines

-- lines are read as a value, with the lines after them, exactly where they begin with the lines of that value. Their text has at most so many bytes
pub record IsForm {A : Type 0} (read : Rest → Result (A × Rest) Refusal) (lines : A → List (List (List ℕ))) (is : A → Type 0) (most : A → ℕ) : Type 0 where
  pub found : (rest : Rest) (value : A) (after : Rest) → read rest ≡ Ok (value, after) → is value × (rest.lines ≡ map line_bytes (lines value) ++ after.lines)
  pub spelled : (value : A) (number : ℕ) (rest : List (List ℕ)) → is value
      → read (from_line number (map line_bytes (lines value) ++ rest)) ≡ Ok (value, from_line (number + length (lines value)) rest)
  pub full : (value : A) → is value → list_all are_words (lines value) ≡ true
  pub short : (value : A) → is value → length (lines_text (lines value)) ≤ most value
  pub steady : IsSteady read

-- one line
pub line_form : {A : Type 0} {read : List (List ℕ) → Result A ℕ} {words : A → List (List ℕ)} {is : A → Type 0} {most : A → ℕ} → AreWordsForm read words is most
    → ((value : A) → are_words (words value) ≡ list_all is_word (words value)) → IsForm (value_at read) (λ value. words value ∷ []) is most
line_form {read = read} {words = words} form some = record {
  found = λ rest value after e.
      let line = value_found read rest (value, after) e in
      let is = form.found line.0 value line.2 in
      (is.1, front_line rest.lines line.0 (words value) after.lines line.1 is.0);
  spelled = λ value number rest is. value_spelled read number (words value) rest value (some value ∙ form.full value is) (form.spelled value is);
  full = λ value is. rw (some value, form.full value is) refl;
  short = λ value is.
      let line = length-line_text (words value) (some value ∙ form.full value is) in
      omega (arith, ap length (append-nil (line_text (words value))), form.short value is);
  steady = steady_value read;
}

-- no line
pub none_form : {A : Type 0} (made : A) → IsForm (λ rest. Ok (made, rest)) (λ value. []) (λ value. value ≡ made) (λ value. 0)
none_form {A = A} made = search (rules, steady_ok made)

joined : (first more : List (List (List ℕ))) (rest : List (List ℕ)) →
    map line_bytes (first ++ more) ++ rest ≡ map line_bytes first ++ (map line_bytes more ++ rest)
joined first more rest = ap (λ ls. ls ++ rest) (map-append line_bytes first more) ∙ append_assoc (map line_bytes first) (map line_bytes more) rest

-- some lines, and then others, which may depend on what the first ones say and rest on it
pub then_given_form : {A B : Type 0} {read : Rest → Result (A × Rest) Refusal} {lines : A → List (List (List ℕ))} {is : A → Type 0}
    {most : A → ℕ} {more : B → List (List (List ℕ))} {are : A → B → Type 0} {most_more : B → ℕ} (next : A × Rest → Result (B × Rest) Refusal) (part : B → A)
    → IsForm read lines is most → ((a : A) → is a → IsForm (λ rest. next (a, rest)) more (are a) most_more)
    → ((a : A) (b : B) → is a → are a b → part b ≡ a)
    → IsForm (λ rest. read rest >>= next) (λ b. lines (part b) ++ more b) (λ b. is (part b) × are (part b) b) (λ b. most (part b) + most_more b)
then_given_form {A = A} {read = read} {lines = lines} {is = is} {more = more} {are = are} next part first others agree = record {
  found = λ rest value after e.
      let a = bind_ok (read rest) next (value, after) e in
      let one = first.found rest a.0.0 a.0.1 a.1 in
      let other = (others a.0.0 one.0).found a.0.1 value after a.2 in
      subst (λ (x : A). (is x × are x value) × (rest.lines ≡ map line_bytes (lines x ++ more value) ++ after.lines)) (sym (agree a.0.0 value one.0 other.0))
      ((one.0, other.0), one.1 ∙ ap (λ ls. map line_bytes (lines a.0.0) ++ ls) other.1 ∙ sym (joined (lines a.0.0) (more value) after.lines));
  spelled = λ value number rest is.
      ap (λ ls. read (from_line number ls) >>= next) (joined (lines (part value)) (more value) rest)
      ∙ ap (λ r. r >>= next) (first.spelled (part value) number (map line_bytes (more value) ++ rest) is.0)
      ∙ (others (part value) is.0).spelled value (number + length (lines (part value))) rest is.1
      ∙ ap (λ n. Ok (value, from_line n rest)) (omega (arith, length-append (lines (part value)) (more value)));
  full = λ value is.
      list_all-append are_words (lines (part value)) (more value) ∙ rw (first.full (part value) is.0, (others (part value) is.0).full value is.1) refl;
  short = λ value is. omega (
    arith,
    length-lines_text (lines (part value)) (more value),
    first.short (part value) is.0,
    (others (part value) is.0).short value is.1,
  );
  steady = steady_after read next first.steady (λ a rest after e. (others a (first.found rest a after e).0).steady);
}

pub then_form : {A B : Type 0} {read : Rest → Result (A × Rest) Refusal} {lines : A → List (List (List ℕ))} {is : A → Type 0}
    {most : A → ℕ} {more : B → List (List (List ℕ))} {are : A → B → Type 0} {most_more : B → ℕ} (next : A × Rest → Result (B × Rest) Refusal) (part : B → A)
    → IsForm read lines is most → ((a : A) → IsForm (λ rest. next (a, rest)) more (are a) most_more) → ((a : A) (b : B) → is a → are a b → part b ≡ a)
    → IsForm (λ rest. read rest >>= next) (λ b. lines (part b) ++ more b) (λ b. is (part b) × are (part b) b) (λ b. most (part b) + most_more b)
then_form next part first others agree = then_given_form next part first (λ a is. others a) agree

-- the same form in other words. The bound may be wider
pub form_as : {A : Type 0} {read : Rest → Result (A × Rest) Refusal} {lines spelling : A → List (List (List ℕ))} {is are : A → Type 0} {most wider : A → ℕ}
    → IsForm read lines is most → ((value : A) → is value → are value) → ((value : A) → are value → is value)
    → ((value : A) → is value → lines value ≡ spelling value) → ((value : A) → are value → most value ≤ wider value) → IsForm read spelling are wider
form_as {A = A} {read = read} {are = are} form to from same within = record {
  found = λ rest value after e.
      let read = form.found rest value after e in
      (to value read.0, read.1 ∙ ap (λ ls. map line_bytes ls ++ after.lines) (same value read.0));
  spelled = λ value number rest is.
      rw (sym (same value (from value is))) (form.spelled value number rest (from value is));
  full = λ value is. ap (list_all are_words) (sym (same value (from value is))) ∙ form.full value (from value is);
  short = λ value is. omega (arith, ap (λ ls. length (lines_text ls)) (same value (from value is)), form.short value (from value is), within value is);
  steady = form.steady;
}

-- ---- as many lines as there are values, each by its index

-- the lines of some values, from an index on
abbrev pub row_lines : {A : Type 0} → (ℕ → A → List (List ℕ)) → ℕ → List A → List (List (List ℕ))
row_lines words index [] = []
row_lines words index (value ∷ values) = words index value ∷ row_lines words (index + 1) values

-- each value is what it is to be at its index
abbrev pub AreRows : {A : Type 0} → (ℕ → A → Type 0) → ℕ → List A → Type 0
AreRows is index [] = Unit {0}
AreRows is index (value ∷ values) = is index value × AreRows is (index + 1) values

pub many_form : {A : Type 0} {read : ℕ → List (List ℕ) → Result A ℕ} {words : ℕ → A → List (List ℕ)} {is : ℕ → A → Type 0} {most : ℕ}
    → ((index : ℕ) → AreWordsForm (read index) (words index) (is index) (λ value. most))
    → ((index : ℕ) (value : A) → are_words (words index value) ≡ list_all is_word (words index value)) → (index count : ℕ)
    → IsForm (values_at read index count) (row_lines words index) (λ values. (length values ≡ count) × AreRows is index values) (λ values. most * length values)
unfolding values_at
many_form {A = A} {read = read} {words = words} {is = is} {most = most} each some index count = record {
  found = found index count;
  spelled = spelled index count;
  full = λ values all. full index values all.1;
  short = λ values all. short index values all.1;
  steady = steady index count;
}
  where
    form : (index : ℕ) → IsForm (value_at (read index)) (λ value. words index value ∷ []) (is index) (λ value. most)
    form index = line_form (each index) (some index)

    found : (index count : ℕ) (rest : Rest) (values : List A) (after : Rest) → values_at read index count rest ≡ Ok (values, after)
        → ((length values ≡ count) × AreRows is index values) × (rest.lines ≡ map line_bytes (row_lines words index values) ++ after.lines)
    found index zero rest values after e =
        subst (λ (got : List A × Rest). ((length got.0 ≡ 0) × AreRows is index got.0) × (rest.lines ≡ map line_bytes (row_lines words index got.0) ++
        got.1.lines))
        (ok_is ([], rest) (values, after) e) ((refl, tt), refl)
    found index (suc left) rest values after e =
        let a = bind_ok (value_at (read index) rest) _ (values, after) e in
        let b = bind_ok (values_at read (index + 1) left a.0.1) _ (values, after) a.2 in
        let first = (form index).found rest a.0.0 a.0.1 a.1 in
        let others = found (index + 1) left a.0.1 b.0.0 b.0.1 b.1 in
        subst (λ (got : List A × Rest). ((length got.0 ≡ suc left) × AreRows is index got.0) × (rest.lines ≡ map line_bytes (row_lines words index got.0) ++
        got.1.lines))
        (ok_is (a.0.0 ∷ b.0.0, b.0.1) (values, after) b.2)
        ((ap suc others.0.0, (first.0, others.0.1)), first.1 ∙ ap (λ ls. line_bytes (words index a.0.0) ∷ ls) others.1)

    spelled : (index count : ℕ) (values : List A) (number : ℕ) (rest : List (List ℕ)) → (length values ≡ count) × AreRows is index values
        → values_at read index count (from_line number (map line_bytes (row_lines words index values) ++ rest))
        ≡ Ok (values, from_line (number + length (row_lines words index values)) rest)
    spelled index zero [] number rest all = ap (λ n. Ok ([], from_line n rest)) (omega arith)
    spelled index zero (value ∷ values) number rest all = absurd (omega (arith, all.0))
    spelled index (suc left) [] number rest all = absurd (omega (arith, all.0))
    spelled index (suc left) (value ∷ values) number rest all =
        rw (
          (form index).spelled value number (map line_bytes (row_lines words (index + 1) values) ++ rest) all.1.0,
          spelled (index + 1) left values (number + 1) rest
              (omega (arith, all.0), all.1.1),
        )
        (ap (λ n. Ok (value ∷ values, from_line n rest)) (omega arith))

    full : (index : ℕ) (values : List A) → AreRows is index values → list_all are_words (row_lines words index values) ≡ true
    full index [] all = refl
    full index (value ∷ values) all = rw (some index value, (each index).full value all.0, full (index + 1) values all.1) refl

    short : (index : ℕ) (values : List A) → AreRows is index values → length (lines_text (row_lines words index values)) ≤ most * length values
    short index [] all = omega arith
    short index (value ∷ values) all = omega (
      arith,
      length-lines_text (words index value ∷ []) (row_lines words (index + 1) values),
      (form index).short value all.0,
      short (index + 1) values all.1,
      mul-suc most (length values),
    )

    steady : (index count : ℕ) → IsSteady (values_at read index count)
    steady index zero = steady_ok []
    steady index (suc left) = steady_then (value_at (read index)) _ (form index).steady (λ value.
        steady_then (values_at read (index + 1) left) _ (steady (index + 1) left) (λ values. steady_ok (value ∷ values)))

-- as many lines as there are values, where their places say nothing
pub each_line_form : {A : Type 0} {read : List (List ℕ) → Result A ℕ} {words : A → List (List ℕ)} {is : A → Type 0} {most : ℕ}
    → AreWordsForm read words is (λ value. most) → ((value : A) → are_words (words value) ≡ list_all is_word (words value)) → (count : ℕ)
    → IsForm (values_at (λ index. read) 0 count) (map words) (λ values. (length values ≡ count) × AllByRecursion is values) (λ values. most * length values)
each_line_form {A = A} {words = words} {is = is} each some count =
    form_as (many_form (λ index. each) (λ index. some) 0 count)
    (λ values all. (all.0, (plain 0 values).0.0 all.1)) (λ values all. (all.0, (plain 0 values).0.1 all.1)) (λ values all. (plain 0 values).1)
    (λ values all. omega arith)
  where
    plain : (index : ℕ) (values : List A) →
        (AreRows (λ index. is) index values ↔ AllByRecursion is values) × (row_lines (λ index. words) index values ≡ map words values)
    plain index [] = ((λ all. all, λ all. all), refl)
    plain index (value ∷ values) =
        let rest = plain (index + 1) values in
        ((λ all. (all.0, rest.0.0 all.1), λ all. (all.0, rest.0.1 all.1)), ap (λ ls. words value ∷ ls) rest.1)

-- ---- the loop that reads a value from each line

-- the values that were read, and those that are still to be read
abbrev pub with_front : {A : Type 0} → List A → Result (List A × Rest) Refusal → Result (List A × Rest) Refusal
with_front front read = read >>= λ values. Ok (front ++ values.0, values.1)

regroup : {A : Type 0} (front : List A) (value : A) (read : Result (List A × Rest) Refusal) →
    with_front front (read >>= λ values. Ok (value ∷ values.0, values.1)) ≡ with_front (front ++ value ∷ []) read
regroup front value (Ok values) = ap (λ l. Ok (l, values.1)) (sym (append_assoc front (value ∷ []) values.0))
regroup front value (Err refused) = refl

pub values_none : {A : Type 0} (read : ℕ → List (List ℕ) → Result A ℕ) (count : ℕ) (rest : Rest) →
    values_at read 0 count rest ≡ with_front [] (values_at read 0 (count - 0) rest)
values_none read count rest = ap (λ k. values_at read 0 k rest) {x = count} {y = count - 0} (omega arith) ∙ nothing_before (values_at read 0 (count - 0) rest)
  where
    nothing_before : {A : Type 0} (read : Result (List A × Rest) Refusal) → read ≡ with_front [] read
    nothing_before (Ok values) = refl
    nothing_before (Err refused) = refl

pub values_more : {A : Type 0} (read : ℕ → List (List ℕ) → Result A ℕ) (total : Result (List A × Rest) Refusal) (count i : ℕ) (front : List A)
    (rest after : Rest) (value : A) → i < count → value_at (read i) rest ≡ Ok (value, after) → total ≡ with_front front (values_at read i (count - i) rest)
    → total ≡ with_front (front ++ value ∷ []) (values_at read (i + 1) (count - (i + 1)) after)
unfolding values_at
values_more read total count i front rest after value inside e so_far =
    let left : count - i ≡ suc (count - (i + 1)) = omega arith in
    so_far ∙ ap (λ k. with_front front (values_at read i k rest)) left ∙ rw e (regroup front value (values_at read (i + 1) (count - (i + 1)) after))

pub values_stop : {A : Type 0} (read : ℕ → List (List ℕ) → Result A ℕ) (total : Result (List A × Rest) Refusal) (count i : ℕ) (front : List A) (rest : Rest)
    (refused : Refusal) → i < count → value_at (read i) rest ≡ Err refused → total ≡ with_front front (values_at read i (count - i) rest) → total ≡ Err refused
unfolding values_at
values_stop read total count i front rest refused inside e so_far =
    let left : count - i ≡ suc (count - (i + 1)) = omega arith in
    so_far ∙ ap (λ k. with_front front (values_at read i k rest)) left ∙ rw e refl

pub values_done : {A : Type 0} (read : ℕ → List (List ℕ) → Result A ℕ) (total : Result (List A × Rest) Refusal) (count i : ℕ) (front : List A) (rest : Rest) →
    count ≤ i → total ≡ with_front front (values_at read i (count - i) rest) → total ≡ Ok (front, rest)
unfolding values_at
values_done read total count i front rest past so_far =
    so_far ∙ ap (λ k. with_front front (values_at read i k rest)) {x = count - i} {y = 0} (omega arith) ∙ ap (λ l. Ok (l, rest)) (append-nil front)
