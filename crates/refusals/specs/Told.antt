-- What a refusal is, and how it is written: its layer's name, its number and its place. Assumes nothing.
use Rattle.std.specs.Prelude.{ℕ, List, ◌++◌, codes, decimal}
use Rattle.refusals.specs.declared.Layer.{Layer}
use Rattle.refusals.specs.declared.Layer.TheVariants.{ReaderOpened, EachRecord, Film, FilmEachRecord, FilmAtEnd, FilmSetUp, PatternLive, LayerNumber, ProgramFirst}
use Rattle.refusals.specs.declared.Refusal.{Refusal}

abbrev pub refused : Layer → (number place : ℕ) → Refusal
refused layer number place = record { layer = layer; number = number; place = place }

abbrev pub layer_text : Layer → List ℕ
layer_text ReaderOpened = codes "reader opened"
layer_text EachRecord = codes "each record"
layer_text Film = codes "film"
layer_text FilmEachRecord = codes "film, each record"
layer_text FilmAtEnd = codes "film, at end"
layer_text FilmSetUp = codes "film set up"
layer_text PatternLive = codes "pattern, live"
layer_text LayerNumber = codes "layer number"
layer_text ProgramFirst = codes "program, first"

abbrev pub refusal_text : Refusal → List ℕ
refusal_text r = layer_text r.layer ++ (codes ": refused by " ++ (decimal r.number ++ (codes " at " ++ decimal r.place)))
