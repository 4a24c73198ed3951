-- Files that cameras leave are read up to the frame that was cut. Assumes nothing.
use Rattle.std.proofs.Common.{◌≡◌, ℕ, zero, suc, ◌+◌, ◌-◌, ◌/◌, ◌%◌, ◌<◌, ◌≤◌, List, [], ◌∷◌, ◌++◌, map, length, take, Some, None, sym, ap, ◌∙◌, ⊎_elim, arith}
use Rattle.std.proofs.lemmas.List.{append_assoc, length-append, length_push, length-take-le, get_or_at}
use Rattle.std.proofs.lemmas.Bool.{cases_lt}
use Rattle.std.specs.List.{flat_map}
use Rattle.std.proofs.lemmas.Bool.Decides.{nat_tests}
use Rattle.totals.specs.Totals.{max_size}
use Rattle.readers.specs.declared.fault.RecordFault.TheVariants.{HeaderCut, DataCut}
use Rattle.readers.specs.Field.{little}
use Rattle.ivf.specs.Ivf.{frame_fault, frames_from, ivf_reading}
use Rattle.readers.specs.Reading.{Ending}
use Rattle.ivf.specs.Recorded.{low_first, Shot, shot_size, shot_bytes, cut_ending, ReadsCut}
use Rattle.ivf.proofs.Frames.{frames_end, frames_more, frames_fault}

-- v fits in n bytes
abbrev InBytes : ℕ → ℕ → Type 0
InBytes zero v = v ≡ 0
InBytes (suc n) v = InBytes n (v / 256)

-- a field that was written is read back, at any width
little_written : (n v : ℕ) (pre rest : List ℕ) (p : ℕ) → length pre ≡ p → InBytes n v → little n p (pre ++ (low_first n v ++ rest)) ≡ v
little_written zero v pre rest p h fits = sym fits
little_written (suc n) v pre rest p h fits =
    let x = v % 256 in
    let first = get_or_at pre x (low_first n (v / 256) ++ rest) 0 p h in
    let moved : little n (p + 1) (pre ++ (x ∷ (low_first n (v / 256) ++ rest))) ≡ v / 256 =
    ap (little n (p + 1)) (sym (append_assoc pre (x ∷ []) (low_first n (v / 256) ++ rest)))
    ∙ little_written n (v / 256) (pre ++ (x ∷ [])) rest (p + 1) (length_push pre x ∙ ap (λ (m : ℕ). m + 1) h) fits in
    omega (arith, first, moved)

size_fits : (v : ℕ) → v ≤ 16777215 → InBytes 4 v
size_fits v h = omega arith

length_shot : (shot : Shot) → length (shot_bytes shot) ≡ 12 + shot_size shot
length_shot shot = omega arith

header_cut : (input : List ℕ) (p there : ℕ) → length input ≡ p + there → there < 12 → frame_fault input p ≡ Some (HeaderCut p)
header_cut input p there long cut = grind (arith, nat_tests)

-- the checks of a frame, by the size that its header has and the bytes that are there
module _ (input : List ℕ) (p size there : ℕ) (long : length input ≡ p + there) (small : size ≤ max_size) where
  passes : little 4 p input ≡ size → 12 + size ≤ there → frame_fault input p ≡ None
  passes is whole = grind (arith, nat_tests)

  data_cut : little 4 p input ≡ size → 12 ≤ there → there < 12 + size → frame_fault input p ≡ Some (DataCut p)
  data_cut is head cut = grind (arith, nat_tests)

-- the size in a header of which those four bytes are there
size_there : (shot : Shot) (n : ℕ) (pre : List ℕ) (p : ℕ) → length pre ≡ p → 12 ≤ n → little 4 p (pre ++ take n (shot_bytes shot)) ≡ shot_size shot
size_there shot n pre p h head =
    let four : n ≡ suc (suc (suc (suc (n - 4)))) = omega arith in
    ap (λ (m : ℕ). little 4 p (pre ++ take m (shot_bytes shot))) four
    ∙ little_written 4 (shot_size shot) pre (take (n - 4) (low_first 8 shot.stamp ++ shot.held)) p h (size_fits (shot_size shot) shot.small)

-- the frames of an input, from a place on
abbrev from : List ℕ → ℕ → List ℕ × Ending
from input p = frames_from (length input) input p

module _ (broken : Shot) (n : ℕ) (part : n < length (shot_bytes broken)) where
  -- after all whole frames
  at_cut : (input pre : List ℕ) (p : ℕ) → input ≡ pre ++ take n (shot_bytes broken) → length pre ≡ p → from input p ≡ ([], cut_ending p n)
  at_cut input pre p is h =
      let long : length input ≡ p + n = omega (arith, ap length is, length-append pre (take n (shot_bytes broken)), length-take-le n (shot_bytes broken) (omega arith)) in
      ⊎_elim
      (λ none. frames_end input (length input) p (omega arith) ∙ grind (arith, nat_tests))
      (λ more. ⊎_elim
      (λ cut. frames_fault input p (HeaderCut p) (omega arith) (header_cut input p n long cut) ∙ grind (arith, nat_tests))
      (λ head. frames_fault input p (DataCut p) (omega arith) (data_cut input p (shot_size broken) n long broken.small (ap (little 4 p) is ∙ size_there broken n pre p h head) head (omega (arith, length_shot broken))) ∙ grind (arith, nat_tests))
      (cases_lt n 12))
      (cases_lt n 1)

  reads_cut : (whole : List Shot) (input pre : List ℕ) (p : ℕ) → input ≡ pre ++ (flat_map shot_bytes whole ++ take n (shot_bytes broken)) → length pre ≡ p → from input p ≡ (map shot_size whole, cut_ending (p + length (flat_map shot_bytes whole)) n)
  reads_cut [] input pre p is h = at_cut input pre p is h ∙ ap (λ (q : ℕ). ([], cut_ending q n)) (omega arith)
  reads_cut (shot ∷ whole) input pre p is h =
      let rest = flat_map shot_bytes whole ++ take n (shot_bytes broken) in
      let here : input ≡ pre ++ (shot_bytes shot ++ rest) = is ∙ ap (λ (bs : List ℕ). pre ++ bs) (append_assoc (shot_bytes shot) (flat_map shot_bytes whole) (take n (shot_bytes broken))) in
      let long : length input ≡ p + (12 + shot_size shot + length rest) = omega (arith, ap length here, length-append pre (shot_bytes shot ++ rest), length-append (shot_bytes shot) rest, length_shot shot) in
      let size : little 4 p input ≡ shot_size shot = ap (little 4 p) here ∙ little_written 4 (shot_size shot) pre _ p h (size_fits (shot_size shot) shot.small) in
      let next = reads_cut whole input (pre ++ shot_bytes shot) (p + 12 + shot_size shot) (here ∙ sym (append_assoc pre (shot_bytes shot) rest)) (omega (arith, length-append pre (shot_bytes shot), length_shot shot)) in
      let place : p + 12 + shot_size shot + length (flat_map shot_bytes whole) ≡ p + length (shot_bytes shot ++ flat_map shot_bytes whole) = omega (arith, length-append (shot_bytes shot) (flat_map shot_bytes whole), length_shot shot) in
      frames_more input p (omega arith) (passes input p (shot_size shot) (12 + shot_size shot + length rest) long shot.small size (omega arith))
      ∙ ap (λ (s : ℕ). (s ∷ (from input (p + 12 + s)).0, (from input (p + 12 + s)).1)) size
      ∙ ap (λ (later : List ℕ × Ending). (shot_size shot ∷ later.0, later.1)) next
      ∙ ap (λ (q : ℕ). (shot_size shot ∷ map shot_size whole, cut_ending q n)) place

pub ivf_reads_cut : (input : List ℕ) → ReadsCut input (ivf_reading input 32)
ivf_reads_cut input whole n cut =
    let read = reads_cut cut.broken n cut.part whole input cut.header 32 cut.bytes cut.long in
    (ap (λ x. x.0) read, ap (λ x. x.1) read)
