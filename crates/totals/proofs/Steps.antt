-- Running totals, one weight at a time. Assumes nothing.
use Rattle.std.proofs.Common.{◌≡◌, ℕ, ◌+◌, ◌<◌, ◌≤◌, List, length, get_or, set, sym, ap, ◌∙◌, subst, arith}
use Rattle.std.proofs.lemmas.List.FromFn.{fill_by_all, length-map-range_with_len, get_or-map-range_with_len}
use Rattle.std.proofs.lemmas.List.Edits.{fill_by_more}
use Rattle.std.proofs.lemmas.List.Sums.{sum_by_more}
use Rattle.totals.specs.Totals.{total, totals_of}

pub total_more : (weights : List ℕ) (i : ℕ) → i < length weights → total weights (i + 1) ≡ total weights i + get_or weights i 0
total_more weights i h = sum_by_more (λ (w : ℕ). w) weights i 0 h

-- where the first i + 1 totals stand, the next one is the last of them with the next weight
pub totals_more : (weights memory : List ℕ) (i w : ℕ) → i < length weights → i + 1 < length memory → w ≡ get_or weights i 0 →
    ((k : ℕ) → k < i + 1 → get_or memory k 0 ≡ total weights k) →
    (k : ℕ) → k < i + 1 + 1 → get_or (set memory (i + 1) (get_or memory i 0 + w)) k 0 ≡ total weights k
totals_more weights memory i w h room is stand =
    let next : total weights (i + 1) ≡ get_or memory i 0 + w =
    total_more weights i h ∙ ap (λ (t : ℕ). t + get_or weights i 0) (sym (stand i (omega arith))) ∙ ap (λ (v : ℕ). get_or memory i 0 + v) (sym is) in
    subst (λ (t : ℕ). (k : ℕ) → k < i + 1 + 1 → get_or (set memory (i + 1) t) k 0 ≡ total weights k) next (fill_by_more (total weights) memory (i + 1) 0 room stand)

pub totals_all : (weights memory : List ℕ) → length memory ≡ length weights + 1 → ((k : ℕ) → k < length weights + 1 → get_or memory k 0 ≡ total weights k) → memory ≡ totals_of weights
totals_all weights memory h stand = fill_by_all (total weights) memory (length weights + 1) 0 h stand

pub totals_length : (weights : List ℕ) → length (totals_of weights) ≡ length weights + 1
totals_length weights = length-map-range_with_len (total weights) 0 (length weights + 1)

pub totals_at : (weights : List ℕ) (k : ℕ) → k ≤ length weights → get_or (totals_of weights) k 0 ≡ total weights k
totals_at weights k h = get_or-map-range_with_len (total weights) 0 (length weights + 1) k k 0 (omega arith) (omega arith)
