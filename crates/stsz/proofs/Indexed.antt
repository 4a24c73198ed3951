-- A whole sample-size box is read up to its first sample that is too large. Assumes nothing.
use Rattle.std.proofs.Common.{◌≡◌, ℕ, zero, suc, ◌+◌, ◌-◌, List, map, ap, arith}
use Rattle.std.proofs.lemmas.Bool.Decides.{nat_tests}
use Rattle.std.specs.List.{range_with_len}
use Rattle.stsz.specs.declared.table.SizeTable.{SizeTable}
use Rattle.stsz.specs.Format.{samples}
use Rattle.stsz.specs.Stsz.{TableOf, samples_from}
use Rattle.stsz.specs.Indexed.{sample, FirstLarge, box_ending}

module _ (input : List ℕ) (table : SizeTable) (k : ℕ) (whole : TableOf input table) (first : FirstLarge input k) where
  -- the samples from i on: m small ones, and then sample k, which is too large, or none
  read_on : (left i m : ℕ) → i + left ≡ samples input → i + m ≡ k → samples_from left table.sizes table.input.now i ≡ (map (sample input) (range_with_len i m), box_ending input k)
  read_on zero i zero c e = grind (arith, nat_tests)
  read_on zero i (suc m) c e = absurd (omega (arith, first.among))
  read_on (suc left) i zero c e = grind (arith, nat_tests, whole.bytes, whole.sizes, table.inside i (omega (arith, whole.count)), first.large)
  read_on (suc left) i (suc m) c e = grind (arith, nat_tests, whole.bytes, whole.sizes, table.inside i (omega (arith, whole.count)), first.before i (omega arith), read_on left (i + 1) m (omega arith) (omega arith))

  box_read : samples_from (table.count - 0) table.sizes table.input.now 0 ≡ (map (sample input) (range_with_len 0 k), box_ending input k)
  box_read = read_on (table.count - 0) 0 k (omega (arith, whole.count)) (omega arith)

  pub box_sizes : (samples_from (table.count - 0) table.sizes table.input.now 0).0 ≡ map (sample input) (range_with_len 0 k)
  box_sizes = ap (λ x. x.0) box_read

  pub box_ends : (samples_from (table.count - 0) table.sizes table.input.now 0).1 ≡ box_ending input k
  box_ends = ap (λ x. x.1) box_read
