use Prim.Native.Nat.{◌+◌, ◌*◌, ◌%◌, ◌≤◌}
use mathlib.Core.Path.{◌≡◌}
use mathlib.Core.Bool.{◌&&◌}
use mathlib.Core.List.{map}
use lib.ListN.{length, drop}
use Rattle.std.specs.Iterator.Adapters.{enumerate_source, enumerate_count}
use Rattle.std.specs.Slice.Iter.{chunks_exact_rest, chunks_exact_size}
use Rattle.text.specs.Numerals.{all_digits}
use Rattle.text.specs.Place.{put}
use Rattle.intel_hex.specs.Record.{pair_values, total}
use Rattle.intel_hex.proofs.pairs.put_pairs.Given as goal

abbrev pub invariant-loop-k : goal.invariant-loop-k
invariant-loop-k l = let k = enumerate_count l.k-iterator in record {
  digits : l.good && all_digits 16 (drop (2 * k) l.pairs) ≡ all_digits 16 l.pairs;
  sum : l.sum + total (pair_values (drop (2 * k) l.pairs)) ≡ total (pair_values l.pairs);
  values : put l.bytes (l.at + k) (map (λ b. b % 256) (pair_values (drop (2 * k) l.pairs))) ≡ put l.initial.bytes l.at (map (λ b. b % 256) (pair_values l.pairs));
  most : l.sum ≤ 272 * k;
  left : chunks_exact_rest (enumerate_source l.k-iterator) ≡ drop (2 * k) l.pairs;
  size : chunks_exact_size (enumerate_source l.k-iterator) ≡ 2;
  within : 2 * k ≤ length l.pairs;
}
