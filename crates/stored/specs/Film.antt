-- What a film means, by its totals: those are L(0) to L(N). Assumes nothing.
use Rattle.std.specs.Prelude.{◌≡◌, ℕ, ◌+◌, ◌-◌, ◌≤◌, true, List, length, slice_index}
use Rattle.std.proofs.Common.{arith}
use Rattle.std.proofs.lemmas.Bool.{eqb-true}
use Rattle.std.proofs.lemmas.Bool.Decides.{nat_tests}
use Rattle.totals.specs.Totals.{max_size}
use Rattle.envelopes.specs.Bounds.{Bounds}
use Rattle.stored.specs.Totals.{entry_fits, Fits}
use Rattle.stored.specs.Stored.{Frames, stored_bounds}

module _ (totals : List ℕ) where
  -- a slot for each total after the first
  abbrev pub film_slots : ℕ
  film_slots = length totals - 1

  -- the sum of the first k sizes
  abbrev pub film_due : ℕ → ℕ
  film_due k = slice_index totals k

  next_rises : (k : ℕ) → entry_fits totals (k + 1) ≡ true → film_due k ≤ film_due (k + 1)
  next_rises k e = grind (arith, nat_tests)

  next_small : (k : ℕ) → entry_fits totals (k + 1) ≡ true → film_due (k + 1) ≤ film_due k + max_size
  next_small k e = grind (arith, nat_tests)

  pub film_frames : Fits totals → Frames film_slots film_due
  film_frames fits = record {
    some = omega (arith, fits.some);
    few = omega (arith, fits.few);
    none = eqb-true (film_due 0) 0 (fits.each 0 (omega (arith, fits.some)));
    rises = λ k h. next_rises k (fits.each (k + 1) (omega arith));
    small = λ k h. next_small k (fits.each (k + 1) (omega arith));
  }

  abbrev pub film_bounds : Fits totals → Bounds
  film_bounds fits = stored_bounds film_slots film_due (film_frames fits)
