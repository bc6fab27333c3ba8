use Rattle.std.proofs.{Common.{rules, refl}, lemmas.Option.slice_get_read}
use Rattle.mh_embed.specs.Endings.{Found, NoItem}
use Rattle.mh_embed.proofs.replied.Replied.item.Goals as goal

pub returns-in-Some : goal.returns-in-Some
returns-in-Some c =
    let read = c.in-Some.ensures.lookup in
    Found c.in-Some.item.now (rw (← c.items.ensures) (slice_get_read c.items.result.now _ c.args.index c.in-Some.item.now refl (search rules) read.1)) c.item_numbers.ensures

pub returns-in-None : goal.returns-in-None
returns-in-None c = NoItem (search rules) refl
