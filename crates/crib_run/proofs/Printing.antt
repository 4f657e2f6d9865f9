-- Bytes put on a page, one after another.
use Rattle.std.proofs.Common.{◌≡◌, ℕ, ◌+◌, ◌<◌, ◌∙◌, Bool, true, false, List, [], ◌∷◌, ◌++◌, length, take, flat_map, get_or, Option}
use Rattle.std.proofs.Common.{◌⊎◌, inl, inr, refl, ap, sym, subst, append_assoc, length-append, arith}
use Rattle.std.specs.Io.KnownBytes.{Appends}
use Rattle.std.proofs.KnownBytes.{Appends-nil, Appends-trans}
use Rattle.std.proofs.lemmas.List.{append-nil, flat_map_more, take-append-le, take_more}
use Rattle.std.proofs.Math.Seq.{take-append-add}
use Rattle.crib_text.specs.Device.{HasFailed}
use Rattle.crib_run.specs.declared.status.Status.{Status}
use Rattle.crib_run.specs.declared.status.Status.TheVariants.{Fault}
use Rattle.crib_run.specs.Run.{Sends}
use Rattle.crib_run.specs.Prints.{Stand, TakesAll, FailsWithin, Changes, Prints}

-- a proper beginning of some bytes is one of them and more
fails_sooner : (a b : List ℕ) (s t : Option (List ℕ)) (n m : ℕ) → FailsWithin a s t n m → FailsWithin (a ++ b) s t n m
fails_sooner a b s t n m fails = record {
  sent = fails.sent;
  less = omega (arith, fails.less, length-append a b);
  part = rw (take-append-le fails.sent a b (omega (arith, fails.less))) fails.part;
  failed = fails.failed;
}

fails_later : (a b : List ℕ) (s t u : Option (List ℕ)) (n m k : ℕ) → TakesAll a s t n m → FailsWithin b t u m k → FailsWithin (a ++ b) s u n k
fails_later a b s t u n m k takes fails =
    record {
      sent = length a + fails.sent;
      less = omega (arith, fails.less, length-append a b);
      part = rw (take-append-add a b fails.sent) (Appends-trans s t u _ _ takes.whole fails.part);
      failed = λ small. grind (arith, fails.failed, takes.counted, small);
    }

takes_both : (a b : List ℕ) (s t u : Option (List ℕ)) (n m k : ℕ) → TakesAll a s t n m → TakesAll b t u m k → TakesAll (a ++ b) s u n k
takes_both a b s t u n m k first next =
    record { whole = Appends-trans s t u _ _ first.whole next.whole; counted = λ small. grind (arith, next.counted, first.counted, small) }

changes_both : (a b : List ℕ) (x y z : Bool) (s t u : Stand) → s.is_cut ≡ x → t.is_cut ≡ y → u.is_cut ≡ z → Changes x y a s t → Changes y z b t u
    → Changes x z (a ++ b) s u
changes_both a b true true z s t u before between after first next = next ∙ first
changes_both a b true false z s t u before between after first next = absurd (grind (arith, before, between, first))
changes_both a b false true true s t u before between after first next = rw next (fails_sooner a b _ _ _ _ first)
changes_both a b false true false s t u before between after first next = absurd (grind (arith, between, after, next))
changes_both a b false false true s t u before between after first next = fails_later a b _ _ _ _ _ _ first next
changes_both a b false false false s t u before between after first next = takes_both a b _ _ _ _ _ _ first next

-- bytes, and then more bytes
pub more : {a b : List ℕ} {s t u : Stand} → Prints a s t → Prints b t u → Prints (a ++ b) s u
more {a} {b} {s} {t} {u} first next = record {
  same = next.same ∙ first.same;
  put = changes_both a b s.is_cut t.is_cut u.is_cut s t u refl refl refl first.put next.put;
}

changes_nothing : (x : Bool) (s : Stand) → Changes x x [] s s
changes_nothing true s = refl
changes_nothing false s = record { whole = Appends-nil s.contents; counted = λ small. omega arith }

pub nothing : (s : Stand) → Prints [] s s
nothing s = record { same = refl; put = changes_nothing s.is_cut s }

-- the same bytes, said in another way
pub as_text : {a b : List ℕ} {s t : Stand} → Prints a s t → a ≡ b → Prints b s t
as_text {s = s} {t = t} prints same = subst (λ (bytes : List ℕ). Prints bytes s t) same prints

next_piece : {X : Type 0} (f : X → List ℕ) (xs : List X) (i : ℕ) (d : X) → i < length xs
    → flat_map f (take i xs) ++ f (get_or xs i d) ≡ flat_map f (take (i + 1) xs)
next_piece f xs i d below = flat_map_more f [] (take i xs) (get_or xs i d) ∙ ap (flat_map f) (sym (take_more xs i d below))

-- the pieces of a list up to an index, and then the next one
pub piece_at : {X : Type 0} (f : X → List ℕ) (xs : List X) (i : ℕ) (d : X) {s t u : Stand} → i < length xs
    → Prints (flat_map f (take i xs)) s t → Prints (f (get_or xs i d)) t u → Prints (flat_map f (take (i + 1) xs)) s u
piece_at f xs i d below first next = as_text (more first next) (next_piece f xs i d below)

pub piece : {X : Type 0} (f : X → List ℕ) (xs : List X) (i : ℕ) (x : X) {s t u : Stand} → i < length xs → x ≡ get_or xs i x
    → Prints (flat_map f (take i xs)) s t → Prints (f x) t u → Prints (flat_map f (take (i + 1) xs)) s u
piece f xs i x below is first next = piece_at f xs i x below first (as_text next (ap f is))

pub none_left : {X : Type 0} (xs : List X) → length xs ≡ 0 → xs ≡ []
none_left [] none = refl
none_left (x ∷ xs) none = absurd (omega (arith, none))

-- what is printed on a page that was whole is sent: all of it if the page is not cut, and otherwise a proper beginning
put_as : {bytes : List ℕ} {s t : Stand} (cut : Bool) → Prints bytes s t → s.is_cut ≡ false → t.is_cut ≡ cut → Changes false cut bytes s t
put_as {bytes} {s} {t} cut prints before after =
    subst (λ (x : Bool). Changes false x bytes s t) after (subst (λ (x : Bool). Changes x t.is_cut bytes s t) before prints.put)

pub sent_all : {bytes : List ℕ} {s t : Stand} (status : Status) → Prints bytes s t → s.is_cut ≡ false → t.is_cut ≡ false
    → Sends (record { output = bytes; status = status }) s.contents t.contents (HasFailed s.faults t.faults) status
sent_all status prints before after = inl ((put_as false prints before after).whole, refl)

pub sent_front : {bytes : List ℕ} {s t : Stand} (status : Status) → Prints bytes s t → s.is_cut ≡ false → t.is_cut ≡ true
    → Sends (record { output = bytes; status = status }) s.contents t.contents (HasFailed s.faults t.faults) Fault
sent_front status prints before after =
    let part = put_as true prints before after in inr (part.sent, part.less, part.part, refl, part.failed)

-- all of it is written, or a proper beginning if the device failed
abbrev pub Written : List ℕ → Stand → Stand → Type 0
Written bytes s t =
    Appends s.contents t.contents bytes
    ⊎ ((sent : ℕ) × (sent < length bytes) × Appends s.contents t.contents (take sent bytes) × HasFailed s.faults t.faults)

written_if : (x : Bool) (bytes : List ℕ) (s t : Stand) → Changes false x bytes s t → Written bytes s t
written_if true bytes s t put = inr (put.sent, put.less, put.part, put.failed)
written_if false bytes s t put = inl put.whole

pub written : {bytes : List ℕ} {s t : Stand} → Prints bytes s t → s.is_cut ≡ false → Written bytes s t
written {bytes} {s} {t} prints before = written_if t.is_cut bytes s t (put_as t.is_cut prints before refl)

-- ---- loops

-- some bytes of a whole are printed, and others are left
pub record SoFar (left whole : List ℕ) (s t : Stand) : Type 0 where
  pub done : List ℕ
  pub same : done ++ left ≡ whole
  pub put : Prints done s t

pub so_far_none : (whole : List ℕ) (s : Stand) → SoFar whole whole s s
so_far_none whole s = record { done = []; same = refl; put = nothing s }

pub so_far_more : {left rest piece whole : List ℕ} {s t u : Stand} → piece ++ rest ≡ left → SoFar left whole s t → Prints piece t u → SoFar rest whole s u
so_far_more {left} {rest} {piece} {whole} same so_far prints = record {
  done = so_far.done ++ piece;
  same = append_assoc so_far.done piece rest ∙ ap (λ (bytes : List ℕ). so_far.done ++ bytes) same ∙ so_far.same;
  put = more so_far.put prints;
}

pub so_far_skip : {left rest whole : List ℕ} {s t : Stand} → rest ≡ left → SoFar left whole s t → SoFar rest whole s t
so_far_skip {left} {rest} {whole} {s} {t} same so_far = subst (λ (bytes : List ℕ). SoFar bytes whole s t) (sym same) so_far

pub so_far_done : {left whole : List ℕ} {s t : Stand} → left ≡ [] → SoFar left whole s t → Prints whole s t
so_far_done {left} {whole} none so_far =
    as_text so_far.put (sym (append-nil so_far.done) ∙ ap (λ (bytes : List ℕ). so_far.done ++ bytes) (sym none) ∙ so_far.same)
