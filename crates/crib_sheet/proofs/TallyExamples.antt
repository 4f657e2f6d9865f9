-- Worked examples of how many deals beat a plan, as text.
use Rattle.std.proofs.Common.{◌≡◌, [], ◌∷◌, codes, map, refl}
use Rattle.std.specs.Fmt.{digits}
use Rattle.crib_beaten.specs.declared.tally.Tally.{Tally}
use Rattle.crib_run.specs.declared.status.Status.TheVariants.{Yes, No}
use Rattle.crib_sheet.specs.Beaten.{beaten_status, beaten_text, row_line, tally_reply}

text_of_a_tally :
    beaten_text 122175900 48
    (record { ranks = 5 ∷ 5 ∷ 5 ∷ 5 ∷ []; open_deals = 820; beaten = 41 }
    ∷ record { ranks = 1 ∷ 2 ∷ 10 ∷ 13 ∷ []; open_deals = 13120; beaten = 7 } ∷ [])
    ≡ codes "beaten 48 of 122175900\n5555 41 of 820\nA2TK 7 of 13120\n"
unfolding digits row_line beaten_text
text_of_a_tally = refl

-- a plan that no deal beats is sure
statuses : map beaten_status (0 ∷ 1 ∷ []) ≡ Yes ∷ No ∷ []
statuses = refl

reply_of_a_tally : {A : Type 0} (tally : Tally A) →
    tally_reply tally ≡ record { output = beaten_text tally.open_deals tally.beaten tally.rows.items; status = beaten_status tally.beaten }
reply_of_a_tally tally = refl
