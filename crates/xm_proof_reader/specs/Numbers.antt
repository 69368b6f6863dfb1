-- Numbers that are written as decimal texts.
use Rattle.std.specs.Prelude.{ℕ, List, Option, Some, None, ◌&&◌, ℤ, if◌then◌else◌}
use Rattle.std.specs.Fmt.{signed_decimal}
use Rattle.std.specs.Str.{bytes_eq}
use Rattle.std.specs.Str.Parse.{signed_digits_value}
use Rattle.xm_proof.specs.Sums.{fits128}

-- the number that the text's digits tell, where its absolute value is at most 2^127 - 1 and the text is how that number
-- is written: without a plus, leading zeros and a minus before 0
unfoldable pub number_of : List ℕ → Option ℤ
number_of text =
    if fits128 (signed_digits_value 10 text) && bytes_eq (signed_decimal (signed_digits_value 10 text)) text
    then Some (signed_digits_value 10 text) else None
