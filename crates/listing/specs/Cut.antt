-- What the listing tells of a film whose card was pulled: its whole frames, or where it was cut. Assumes nothing.
use Rattle.std.specs.Prelude.{◌≡◌, ℕ, ◌≤◌, cond, List, map, length, None, sum, Result, ◌==◌}
use Rattle.ivf.specs.Ivf.{ivf_open_fault}
use Rattle.ivf.specs.Recorded.{Shot, shot_size, CutAt, cut_place}
use Rattle.listing.specs.declared.fault.ListingFault.{ListingFault}
use Rattle.listing.specs.declared.row.Row.{Row}
use Rattle.listing.specs.declared.row.Row.TheVariants.{Film, Refused}
use Rattle.listing.specs.Listing.{told_row}

-- an IVF file of at most 65,536 bytes, with at most 1,024 whole frames and n bytes of one more
pub record Cut (input : List ℕ) (whole : List Shot) (n : ℕ) : Type 0 where
  pub short : length input ≤ 65536
  pub header : ivf_open_fault input ≡ None
  pub few : length whole ≤ 1024
  pub cut : CutAt input whole n

-- the film of its whole frames, or that it has none, where no byte of another frame is there; else the refusal 13
-- at that frame's first byte
abbrev pub cut_row : List Shot → ℕ → Row
cut_row whole n =
    cond (n == 0) (cond (length whole == 0) (Refused 20 0) (Film (length whole) (sum (map shot_size whole))))
    (Refused 13 (cut_place whole))

abbrev pub ListsCut : List ℕ → Result Row ListingFault → Type 0
ListsCut input r = (whole : List Shot) (n : ℕ) → Cut input whole n → told_row r ≡ cut_row whole n
