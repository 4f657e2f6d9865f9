use Rattle.std.proofs.Common.{[], ◌∷◌, ◌-◌, length, take, drop}
use Rattle.crib_cards.specs.declared.sides.Side.TheVariants.{Opponent}
use Rattle.crib_cards.specs.declared.moves.Move.TheVariants.{Card}
use Rattle.crib_deals.proofs.ThrowLists.{first_and_rest}
use Rattle.crib_search.proofs.FoundAfterTurns.{ok_map}
use Rattle.crib_leads.specs.Leads.{played_by}
use Rattle.crib_leads.proofs.Entries.{added_both}
use Rattle.crib_leads.proofs.theirs.+add_cards.Goals as goal

pub returns-in_ok-add_turn-in-len1-up-clause-added : goal.returns-in_ok-add_turn-in-len1-up-clause-added
returns-in_ok-add_turn-in-len1-up-clause-added g t c =
    ok_map c.add_cards.result _ _
    (λ _ others. rw (first_and_rest c.args.cards.now c.card-item.result c.in-len1-up.len_at_least c.card-item.is)
    (added_both c.args.problem.now (record { side = Opponent; what = Card c.card-item.result } ∷ [])
    (played_by Opponent (take (length c.args.cards.now - 1) (drop 1 c.args.cards.now)))
    c.args.leads.now.items c.add_turn.new.leads.items c.add_cards.new.leads.items
    (rw c.their_act.ensures at c.in_ok-add_turn-in-len1-up.ensures.added) others))
    c.add_cards.ensures.added
