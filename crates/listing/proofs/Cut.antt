-- A film that was cut is listed up to the cut. Assumes nothing.
use Rattle.std.proofs.Common.{◌≡◌, ℕ, ◌≤◌, Bool, true, false, cond, eqb, ltb, List, map, length, Ok, Err, sum, Option, Result, refl, ap, ◌∙◌, arith}
use Rattle.std.proofs.lemmas.List.{length-map}
use Rattle.std.proofs.lemmas.Bool.{le-ltb, cond-false}
use Rattle.readers.specs.declared.fault.OpenFault.{OpenFault}
use Rattle.readers.specs.declared.fault.RecordFault.TheVariants.{HeaderCut, DataCut}
use Rattle.readers.specs.Reading.{Ending, plain, fault}
use Rattle.ivf.specs.Ivf.{ivf_reading}
use Rattle.ivf.specs.Recorded.{shot_size, cut_ending, cut_place}
use Rattle.ivf.proofs.Recorded.{ivf_reads_cut}
use Rattle.films.specs.declared.fault.FilmFault.{FilmFault}
use Rattle.films.specs.declared.fault.FilmFault.TheVariants.{NoFrame}
use Rattle.films.specs.Film.{at_film_end, film_result}
use Rattle.listing.specs.declared.fault.ListingFault.{ListingFault}
use Rattle.listing.specs.declared.row.Row.{Row}
use Rattle.listing.specs.declared.row.Row.TheVariants.{Film, Refused}
use Rattle.listing.specs.Listing.{film_row, of_film, of_opened, told_row}
use Rattle.listing.specs.Cut.{ListsCut}

-- what is told at a plain end, and at the ending of a film that was cut, after some frames
told_end : (none : Bool) (frames : ℕ) (sizes : List ℕ) → told_row (of_film (cond none (Err NoFrame) (Ok frames)) sizes) ≡ cond none (Refused 20 0) (Film frames (sum sizes))
told_end true frames sizes = refl
told_end false frames sizes = refl

told_cut : (place n frames : ℕ) (sizes : List ℕ) → told_row (of_film (at_film_end (cut_ending place n) frames) sizes) ≡ cond (eqb n 0) (cond (eqb frames 0) (Refused 20 0) (Film frames (sum sizes))) (Refused 13 place)
told_cut place n frames sizes = by (eqb n 0) (ltb n 12)
  where
    by : (whole early : Bool) → told_row (of_film (at_film_end (cond whole plain (fault (cond early (HeaderCut place) (DataCut place)))) frames) sizes) ≡ cond whole (cond (eqb frames 0) (Refused 20 0) (Film frames (sum sizes))) (Refused 13 place)
    by true early = told_end (eqb frames 0) frames sizes
    by false true = refl
    by false false = refl

pub lists_cut : (input : List ℕ) (r : Result Row ListingFault) → r ≡ film_row input → ListsCut input r
lists_cut input r is whole n c =
    let read = ivf_reads_cut input whole n c.cut in
    let reading = ivf_reading input 32 in
    let few : length reading.sizes ≤ 1024 = omega (arith, c.few, ap length read.0, length-map whole shot_size) in
    let film : film_result reading 1025 ≡ at_film_end reading.ending (length reading.sizes) = cond-false (ltb 1024 (length reading.sizes)) _ _ (le-ltb _ _ few) in
    let row : ℕ → List ℕ → Row = λ frames sizes. cond (eqb n 0) (cond (eqb frames 0) (Refused 20 0) (Film frames (sum sizes))) (Refused 13 (cut_place whole)) in
    ap told_row is
    ∙ ap told_row (cond-false (ltb 65536 (length input)) _ _ (le-ltb _ _ c.short))
    ∙ ap (λ (o : Option OpenFault). told_row (of_opened o input)) c.header
    ∙ ap (λ (x : Result ℕ FilmFault). told_row (of_film x reading.sizes)) film
    ∙ ap (λ (e : Ending). told_row (of_film (at_film_end e (length reading.sizes)) reading.sizes)) read.1
    ∙ told_cut (cut_place whole) n (length reading.sizes) reading.sizes
    ∙ ap (λ (s : List ℕ). row (length s) s) read.0
    ∙ ap (λ (k : ℕ). row k (map shot_size whole)) (length-map whole shot_size)
