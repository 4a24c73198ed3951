use Rattle.std.proofs.Common.{◌≡◌, ℕ, ◌+◌, ◌*◌, ◌<◌, ◌≤◌, map, length, get_or}
use Rattle.totals.specs.Totals.{total}
use Rattle.totals.proofs.running_totals.Given as goal

abbrev pub invariant-loop-i : goal.invariant-loop-i
invariant-loop-i g l =
    (length l.totals ≡ length l.records + 1) ×
    (get_or l.totals l.i 0 ≤ l.i * 1099511627775) ×
    ((k : ℕ) → k < l.i + 1 → get_or l.totals k 0 ≡ total (map g.W.Weight.weighs l.records) k)
