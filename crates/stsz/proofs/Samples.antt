-- The samples of a box from a number on, one at a time. Assumes nothing.
use Rattle.std.proofs.Common.{◌≡◌, ℕ, suc, ◌+◌, ◌-◌, ◌<◌, ◌≤◌, [], Some, None, Option, ap, ◌∙◌, arith}
use Rattle.std.proofs.lemmas.Bool.Decides.{nat_tests}
use Rattle.readers.specs.declared.fault.RecordFault.{RecordFault}
use Rattle.readers.specs.Reading.{fault, nothing, record_then}
use Rattle.stsz.specs.declared.table.SizeTable.{SizeTable}
use Rattle.stsz.specs.Stsz.{size_at, fault_at, samples_from}

module _ (table : SizeTable) (i : ℕ) where
  -- after the last sample nothing comes
  pub samples_end : table.count ≤ i → samples_from (table.count - i) table.sizes table.input.now i ≡ nothing
  samples_end h = let none : table.count - i ≡ 0 = omega arith in grind (arith, none)

  samples_next : i < table.count → samples_from (table.count - i) table.sizes table.input.now i ≡ record_then (fault_at table i) (size_at table i) (samples_from (table.count - (i + 1)) table.sizes table.input.now (i + 1))
  samples_next l =
      let more : table.count - i ≡ suc (table.count - (i + 1)) = omega arith in
      grind (arith, nat_tests, more, table.inside i l)

  -- before it comes a sample that passes its check, and what follows it
  pub samples_more : i < table.count → fault_at table i ≡ None → samples_from (table.count - i) table.sizes table.input.now i ≡ record_then None (size_at table i) (samples_from (table.count - (i + 1)) table.sizes table.input.now (i + 1))
  samples_more l e = samples_next l ∙ ap (λ (o : Option RecordFault). record_then o (size_at table i) (samples_from (table.count - (i + 1)) table.sizes table.input.now (i + 1))) e

  -- or the fault that it gives
  pub samples_fault : (e : RecordFault) → i < table.count → fault_at table i ≡ Some e → samples_from (table.count - i) table.sizes table.input.now i ≡ ([], fault e)
  samples_fault e l is = samples_next l ∙ ap (λ (o : Option RecordFault). record_then o (size_at table i) (samples_from (table.count - (i + 1)) table.sizes table.input.now (i + 1))) is
