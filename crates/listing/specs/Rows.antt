-- How a row is written: fields separated by commas, ended by CR LF. Assumes nothing.
use Rattle.std.specs.Prelude.{ℕ, List, ◌++◌, codes, decimal}
use Rattle.listing.specs.declared.row.Row.{Row}
use Rattle.listing.specs.declared.row.Row.TheVariants.{Header, Film, Refused}

abbrev pub row_text : Row → List ℕ
row_text Header = codes "row,slots,bytes\r\n"
row_text (Film slots bytes) = codes "film," ++ (decimal slots ++ (codes "," ++ (decimal bytes ++ codes "\r\n")))
row_text (Refused number place) = codes "refused," ++ (decimal number ++ (codes "," ++ (decimal place ++ codes "\r\n")))
