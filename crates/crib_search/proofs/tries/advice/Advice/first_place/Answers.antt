use Rattle.crib_search.proofs.tries.advice.Advice.first_place.Goals as goal

pub start_after-requires : goal.start_after-requires
start_after-requires g c =
    let playable = c.requires.playable c.card_at-card.result c.card_at-card.ensures in
    record { turn = c.requires.turn; held = playable.0; fits = playable.1 }
