-- The row of a film that a reader was opened for. Assumes nothing.
use Rattle.std.proofs.Common.{◌≡◌, ℕ, ◌<◌, ◌≤◌, ltb, List, length, get_or, None, Ok, sum, Option, Result, sym, ap, ◌∙◌, arith}
use Rattle.std.proofs.lemmas.List.{take_all}
use Rattle.std.proofs.lemmas.Bool.{le-ltb, cond-false}
use Rattle.readers.specs.declared.fault.OpenFault.{OpenFault}
use Rattle.ivf.specs.declared.IvfReader.{IvfReader}
use Rattle.readers.specs.Reading.{Reading}
use Rattle.ivf.specs.Ivf.{ivf_open_fault, ivf_meaning}
use Rattle.ivf.proofs.Opened.{ivf_opened}
use Rattle.films.specs.declared.fault.FilmFault.{FilmFault}
use Rattle.films.specs.Film.{film_result, film_memory}
use Rattle.films.proofs.Laws.{film_made, film_total}
use Rattle.listing.specs.declared.row.Row.TheVariants.{Film}
use Rattle.listing.specs.Listing.{film_row, of_film, of_opened}

-- its totals lie within the memory
pub opened_within : (reader : IvfReader) (slots : ℕ) → Ok slots ≡ film_result (ivf_meaning reader) 1025 → slots < 1025
opened_within reader slots ok = (film_made (ivf_meaning reader) 1025 slots (sym ok)).within

module _ (input : List ℕ) (reader : IvfReader) (same : reader.input.now ≡ input) (start : reader.place ≡ 32) where
  pub opened_row : (slots : ℕ) (totals : List ℕ) → length input ≤ 65536 → ivf_open_fault input ≡ None → Ok slots ≡ film_result (ivf_meaning reader) 1025 → totals ≡ film_memory (Ok slots) (ivf_meaning reader).sizes 1025 → Ok (Film slots (get_or totals slots 0)) ≡ film_row input
  opened_row slots totals short none ok held =
      let sizes = (ivf_meaning reader).sizes in
      let made = film_made (ivf_meaning reader) 1025 slots (sym ok) in
      let all : get_or totals slots 0 ≡ sum sizes =
      ap (λ (m : List ℕ). get_or m slots 0) held
      ∙ film_total sizes 1025 slots slots made.all (omega arith)
      ∙ ap sum (take_all slots sizes (omega (arith, made.all))) in
      let row : Ok (Film slots (get_or totals slots 0)) ≡ of_film (film_result (ivf_meaning reader) 1025) sizes =
      ap (λ (b : ℕ). Ok (Film slots b)) all ∙ ap (λ (x : Result ℕ FilmFault). of_film x sizes) ok in
      row
      ∙ ap (λ (r : Reading). of_film (film_result r 1025) r.sizes) (ivf_opened input reader same start)
      ∙ ap (λ (o : Option OpenFault). of_opened o input) (sym none)
      ∙ sym (cond-false (ltb 65536 (length input)) _ _ (le-ltb _ _ short))
