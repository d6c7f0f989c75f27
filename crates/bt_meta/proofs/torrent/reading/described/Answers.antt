use Rattle.std.proofs.Common.{◌≡◌, length, sym, ◌∙◌, arith, ◌/◌}
use Rattle.bt_meta.proofs.Digests.{length-chunks}
use Rattle.bt_meta.proofs.Sizes.{sizes_fit}
use Rattle.bt_meta.proofs.torrent.reading.described.Goals as goal

-- a digest for each 20 bytes
count : (c : goal.In_ok-from_slice) → length c.in_ok-digests.field-0.items ≡ length c.in_ok-pieces.pieces.now / 20
count c = let bytes = c.in_ok-pieces.pieces.now in rw c.in_ok-digests.ensures (length-chunks (length bytes / 20) bytes)

pub invariant_of-result : goal.invariant_of-result
invariant_of-result c =
    let many = length c.in_ok-pieces.pieces.now / 20 in
    let fit = sizes_fit c.in_ok-piece_length.piece_length c.in_ok-content.content.total many tt (sym c.in_ok-check_sizes.ensures) in
    record {
      piece_length_low = omega (arith, c.in_ok-piece_length.ensures.bounds);
      piece_length_high = omega (arith, c.in_ok-piece_length.ensures.bounds);
      total_low = fit.some;
      total_high = fit.total_high;
      pieces_high = rw (count c) fit.pieces_high;
      count = count c ∙ fit.count;
    }
