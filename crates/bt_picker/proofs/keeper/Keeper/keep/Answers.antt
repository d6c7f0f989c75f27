use Rattle.std.proofs.Common.{◌∙◌, sym, refl}
use Rattle.bt_picker.proofs.KeeperCalls.{arrived_index, arrived_piece, arrived_stash, dropped_stash}
use Rattle.bt_picker.proofs.keeper.Keeper.keep.Goals as goal

pub put-requires-clause-piece : goal.put-requires-clause-piece
put-requires-clause-piece c =
    arrived_piece c.self.inside.picker c.tell-reply.new.self c.self.inside.stash c.args.worker c.args.piece c.args.begin c.as_slice.result.now
    c.tell-reply.result c.in_ok-room.room.items c.self.invariant c.tell-reply.ensures.tells (sym c.is_stored.ensures ∙ c.if-is_stored.true)
    (rw c.torrent.ensures at c.in_ok-room.ensures)

pub put-requires-clause-index : goal.put-requires-clause-index
put-requires-clause-index c =
    arrived_index c.self.inside.picker c.tell-reply.new.self c.self.inside.stash c.args.worker c.args.piece c.args.begin c.as_slice.result.now
    c.tell-reply.result c.in_ok-room.room.items c.self.invariant c.tell-reply.ensures.tells (sym c.is_stored.ensures ∙ c.if-is_stored.true)
    (rw c.torrent.ensures at c.in_ok-room.ensures)

pub invariant_of-self : goal.invariant_of-self
invariant_of-self c =
    rw (c.put.ensures, ← c.as_slice.ensures)
    (arrived_stash c.self.inside.picker c.tell-reply.new.self c.self.inside.stash c.args.worker c.args.piece c.args.begin c.as_slice.result.now
    c.tell-reply.result c.in_ok-room.room.items c.self.invariant c.tell-reply.ensures.tells (sym c.is_stored.ensures ∙ c.if-is_stored.true)
    (rw c.torrent.ensures at c.in_ok-room.ensures))

pub invariant_of-self-else-is_stored : goal.invariant_of-self-else-is_stored
invariant_of-self-else-is_stored c =
    dropped_stash c.self.inside.picker c.tell-reply.new.self c.self.inside.stash c.args.worker c.args.piece c.args.begin c.as_slice.result.now
    c.tell-reply.result c.self.invariant c.tell-reply.ensures.tells (sym c.is_stored.ensures ∙ c.if-is_stored.false)

pub invariant_of-self-else-is_stored-2 : goal.invariant_of-self-else-is_stored-2
invariant_of-self-else-is_stored-2 c =
    dropped_stash c.self.inside.picker c.tell-reply.new.self c.self.inside.stash c.args.worker c.args.piece c.args.begin c.as_slice.result.now
    c.tell-reply.result c.self.invariant c.tell-reply.ensures.tells (sym c.is_stored.ensures ∙ c.if-is_stored.false)

pub returns-then-is_stored-clause-completes : goal.returns-then-is_stored-clause-completes
returns-then-is_stored-clause-completes c =
    λ completed. c.tell-reply.ensures.completes c.args.piece c.args.begin c.as_slice.result.now refl cc
