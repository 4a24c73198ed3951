-- What holds where no check refuses a pattern. Assumes nothing.
use Rattle.std.proofs.Common.{◌≡◌, ℕ, ◌<◌, ◌≤◌, List, ◌++◌, map, length, None, get_or, ap, ◌∙◌, arith}
use Rattle.std.proofs.lemmas.List.{map-id}
use Rattle.std.specs.Prelude.{not, nat_lt}
use Rattle.std.proofs.lemmas.Grind.{common_steps}
use Rattle.std.proofs.lemmas.List.Sums.{prefix_len_passes}
use Rattle.totals.specs.Totals.{max_size, total, totals_of}
use Rattle.totals.proofs.Steps.{totals_length, totals_at}
use Rattle.patterns.specs.Checks.{large_one, pattern_fault}
use Rattle.patterns.specs.Pattern.{GroupFits}

none_large : (group : List ℕ) → large_one group ≡ None → (k : ℕ) → k < length group → get_or group k 0 ≤ max_size
none_large group e k h = grind (arith, common_steps, prefix_len_passes (λ size. not (nat_lt max_size size)) group k 0)

pub unrefused : (group : List ℕ) (slots : ℕ) → pattern_fault group slots ≡ None → GroupFits group slots
unrefused group slots e =
    let none : large_one group ≡ None = grind (arith, common_steps) in
    record {
      sizes = grind (arith, common_steps);
      few_sizes = grind (arith, common_steps);
      small = none_large group none;
      some = grind (arith, common_steps);
      few = grind (arith, common_steps);
    }

-- the first sums of a group stand in front of what was not written
pub summed_up : (group written rest : List ℕ) → written ≡ totals_of (map (λ size. size) group) → (k : ℕ) → k ≤ length group → get_or (written ++ rest) k 0 ≡ total group k
summed_up group written rest is k h =
    let sums = is ∙ ap totals_of (map-id group) in
    grind (arith, common_steps, sums, totals_length group, totals_at group k)
