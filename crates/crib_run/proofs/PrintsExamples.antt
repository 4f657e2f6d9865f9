-- Worked examples of what is put on a page.
use Rattle.std.proofs.Common.{◌≡◌, ◌<◌, arith, refl, ap, ℕ, zero, suc, Bool, true, false, List, codes, length, take, Some}
use Rattle.std.specs.Io.KnownBytes.{Appends}
use Rattle.crib_run.specs.Prints.{Prints, Stand}

abbrev page : ℕ → List ℕ → ℕ → Bool → Stand
page name bytes faults is_cut = record { name = name; contents = Some bytes; faults = faults; is_cut = is_cut }

-- all of a piece is put behind what was there, and no call has to fail
pub all_of_a_piece : Prints (codes "bba") (page 7 (codes "x") 0 false) (page 7 (codes "xbba") 0 false)
all_of_a_piece = record { same = refl; put = record { whole = refl; counted = λ small. omega arith } }

-- the beginning of a piece is put before a failed call, and the page is cut
pub front_of_a_piece : Prints (codes "bba") (page 7 (codes "x") 0 false) (page 7 (codes "xbb") 1 true)
front_of_a_piece = record { same = refl; put = record { sent = 2; less = omega arith; part = refl; failed = λ small. omega arith } }

-- a page isn't cut without a failed call, and no failed call is forgotten
pub no_cut_without_failure : Prints (codes "bba") (page 7 (codes "x") 0 false) (page 7 (codes "xbb") 0 true) → ⊥
no_cut_without_failure prints = absurd (omega (arith, prints.put.failed (omega arith)))

pub no_forgotten_failure : Prints (codes "bba") (page 7 (codes "x") 1 false) (page 7 (codes "xbba") 0 false) → ⊥
no_forgotten_failure prints = absurd (omega (arith, prints.put.counted (omega arith)))

-- no byte of a piece is lost without the page being cut
pub no_lost_byte : Prints (codes "bba") (page 7 (codes "x") 0 false) (page 7 (codes "xbb") 0 false) → ⊥
no_lost_byte prints = let same : ◌≡◌ {A = ℕ} 3 4 = ap length prints.put.whole in absurd cc

-- a page that is cut has not the whole piece
pub no_cut_behind_the_whole : Prints (codes "b") (page 7 (codes "x") 0 false) (page 7 (codes "xb") 1 true) → ⊥
no_cut_behind_the_whole prints = behind prints.put.sent prints.put.less prints.put.part
  where
    behind : (sent : ℕ) → sent < length (codes "b") → Appends (Some (codes "x")) (Some (codes "xb")) (take sent (codes "b")) → ⊥
    behind zero less part = (let longer : ◌≡◌ {A = ℕ} 2 1 = ap length part in absurd cc)
    behind (suc sent) less part = absurd (omega (arith, less))

-- a cut page takes nothing
pub nothing_on_a_cut_page : Prints (codes "bba") (page 7 (codes "xbb") 1 true) (page 7 (codes "xbb") 1 true)
nothing_on_a_cut_page = record { same = refl; put = refl }

pub no_piece_on_a_cut_page : Prints (codes "bba") (page 7 (codes "xbb") 1 true) (page 7 (codes "xbbbba") 1 true) → ⊥
no_piece_on_a_cut_page prints =
    let same : Some (codes "xbbbba") ≡ Some (codes "xbb") = ap (λ (stand : Stand). stand.contents) prints.put in absurd cc

-- a piece isn't put on another device
pub no_other_device : Prints (codes "bba") (page 7 (codes "x") 0 false) (page 8 (codes "xbba") 0 false) → ⊥
no_other_device prints = let same : ◌≡◌ {A = ℕ} 8 7 = prints.same in absurd cc
