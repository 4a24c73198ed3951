-- IVF files as cameras leave them: whole frames and, where the card was pulled, a part of one more.
-- Assumes nothing.
use Rattle.std.specs.Prelude.{◌≡◌, ℕ, zero, suc, ◌+◌, ◌/◌, ◌%◌, ◌<◌, ◌≤◌, cond, List, [], ◌∷◌, ◌++◌, map, length, take, ◌==◌, nat_lt}
use Rattle.std.specs.List.{flat_map}
use Rattle.readers.specs.declared.fault.RecordFault.TheVariants.{HeaderCut, DataCut}
use Rattle.totals.specs.Totals.{max_size}
use Rattle.readers.specs.Reading.{Reading, Ending, plain, fault}

-- a number in n bytes, low byte first
abbrev pub low_first : ℕ → ℕ → List ℕ
low_first zero v = []
low_first (suc n) v = v % 256 ∷ low_first n (v / 256)

-- a frame that a camera records
pub record Shot : Type 0 where
  pub stamp : ℕ
  pub held : List ℕ
  pub small : length held ≤ max_size

abbrev pub shot_size : Shot → ℕ
shot_size shot = length shot.held

-- its bytes in the file
abbrev pub shot_bytes : Shot → List ℕ
shot_bytes shot = low_first 4 (shot_size shot) ++ (low_first 8 shot.stamp ++ shot.held)

-- the input has a header, the frames `whole`, and the first n bytes of one more frame, which are not all of it
pub record CutAt (input : List ℕ) (whole : List Shot) (n : ℕ) : Type 0 where
  pub header : List ℕ
  pub broken : Shot
  pub long : length header ≡ 32
  pub part : n < length (shot_bytes broken)
  pub bytes : input ≡ header ++ (flat_map shot_bytes whole ++ take n (shot_bytes broken))

-- how it ends: plainly where nothing of that frame is there, else by a fault at that frame's first byte
abbrev pub cut_ending : (place n : ℕ) → Ending
cut_ending place n = cond (n == 0) plain (fault (cond (nat_lt n 12) (HeaderCut place) (DataCut place)))

-- the first byte of that frame
abbrev pub cut_place : List Shot → ℕ
cut_place whole = 32 + length (flat_map shot_bytes whole)

-- each whole frame is read, wherever the file was cut
abbrev pub ReadsCut : List ℕ → Reading → Type 0
ReadsCut input r =
    (whole : List Shot) (n : ℕ) → CutAt input whole n →
    (r.sizes ≡ map shot_size whole) × (r.ending ≡ cut_ending (cut_place whole) n)
