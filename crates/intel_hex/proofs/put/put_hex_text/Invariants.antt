use Prim.Native.Nat.{◌*◌, ◌≤◌}
use mathlib.Core.Path.{◌≡◌}
use lib.ListN.{length, drop}
use Rattle.std.specs.Iterator.Adapters.{enumerate_source, enumerate_count}
use Rattle.std.specs.Slice.Iter.{chunks_exact_rest, chunks_exact_size}
use Rattle.text.specs.Place.{put}
use Rattle.intel_hex.specs.Writing.{hex_text}
use Rattle.intel_hex.proofs.PutLaws.{rest_text}
use Rattle.intel_hex.proofs.put.put_hex_text.Given as goal

abbrev pub invariant-loop-i : goal.invariant-loop-i
invariant-loop-i l = let i = enumerate_count l.i-iterator in record {
  text : put l.out l.at (rest_text l.words (4 * i)) ≡ put l.initial.out 0 (hex_text l.words);
  place : l.at ≡ 44 * i;
  left : chunks_exact_rest (enumerate_source l.i-iterator) ≡ drop (4 * i) l.words;
  size : chunks_exact_size (enumerate_source l.i-iterator) ≡ 4;
  within : 4 * i ≤ length l.words;
}
