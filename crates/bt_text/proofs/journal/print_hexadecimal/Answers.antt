use Rattle.std.proofs.Common.{subst, sym}
use Rattle.std.specs.Io.KnownBytes.{Appends}
use Rattle.std.proofs.KnownBytes.{Appends-nil, Appends-trans}
use Rattle.hex.specs.Hex.{lower_digits}
use Rattle.bt_text.proofs.Hexadecimal.{encode_lower-more, encode_with-nil}
use Rattle.bt_text.proofs.journal.print_hexadecimal.Goals as goal

pub loop-byte-init : goal.loop-byte-init
loop-byte-init g c =
    let old = g.O.Sink.written c.args.out.now in
    subst (Appends old old) (sym (encode_with-nil lower_digits)) (Appends-nil old)

pub loop-byte-preserved : goal.loop-byte-preserved
loop-byte-preserved g c =
    let first = g.O.Sink.written c.args.out.now in
    let last = g.O.Sink.written c.print_byte.new.out in
    let more = encode_lower-more c.args.bytes.now c.loop-byte.byte-index 0 c.loop-byte-test.true in
    subst (Appends first last) (sym more)
    (Appends-trans _ _ _ _ _ c.loop-byte.invariant c.in_ok-print_byte.ensures.ok)
