-- `store_reply` meets its contract: five words, each behind the one before. Assumes nothing.
use Rattle.door.proofs.DoorLaws.{five_told}
use Rattle.door.proofs.store_reply.Goals as goal

pub returns : goal.returns
returns c = five_told c.args.out.now _ c.requires c.store_word.ensures c.store_word-2.ensures c.store_word-3.ensures c.store_word-4.ensures c.store_word-5.ensures
