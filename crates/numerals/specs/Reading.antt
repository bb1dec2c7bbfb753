-- The words of a text and the numbers that they write. Assumes nothing.
use Rattle.std.specs.Prelude.{ℕ, ◌^◌, Bool, cond, ◌&&◌, List, [], ◌∷◌, ◌++◌, length, ℤ, Some, None, Option, nat_le, nat_lt, ◌==◌}
use Rattle.std.specs.List.{list_all}
use Rattle.std.specs.Option.{option_map, option_and_then}
use Rattle.std.specs.Char.{is_whitespace, digit_value}
use Rattle.std.specs.Str.{chars, encode_utf8_all}
use Rattle.std.specs.Str.Parse.{digits_value, starts_with_minus, without_leading_sign, signed_digits_value}

-- the bytes of a word's characters, before further words; with no character there is no word
abbrev pub before_words : List ℕ → List (List ℕ) → List (List ℕ)
before_words [] words = words
before_words (c ∷ cs) words = encode_utf8_all (c ∷ cs) ∷ words

-- the words of some characters, with white space between them, where `begun` are the characters of a word that has begun
abbrev pub words_after : List ℕ → List ℕ → List (List ℕ)
words_after begun [] = before_words begun []
words_after begun (c ∷ cs) = cond (is_whitespace c) (before_words begun (words_after [] cs)) (words_after (begun ++ (c ∷ [])) cs)

-- the words of a text
abbrev pub words_of : List ℕ → List (List ℕ)
words_of text = words_after [] (chars text)

-- one decimal digit or more, and nothing else
abbrev pub is_numeral : List ℕ → Bool
is_numeral digits = nat_lt 0 (length digits) && list_all (λ c. nat_lt (digit_value c) 10) digits

-- whether the number of a sign or none, and digits, is a signed number of 64 bits
abbrev pub in_64_bits : List ℕ → Bool
in_64_bits word = let size = digits_value 10 (without_leading_sign word) in cond (starts_with_minus word) (nat_le size (2 ^ 63)) (nat_lt size (2 ^ 63))

-- the number that a word writes, if it is a numeral of a signed number of 64 bits: a sign or none, and digits
abbrev pub number_of : List ℕ → Option ℤ
number_of word = cond (is_numeral (without_leading_sign word) && in_64_bits word) (Some (signed_digits_value 10 word)) None

-- the numbers of words, if each word writes one
abbrev pub numbers_in : List (List ℕ) → Option (List ℤ)
numbers_in [] = Some []
numbers_in (word ∷ words) = option_and_then (λ n. option_map (λ ns. n ∷ ns) (numbers_in words)) (number_of word)

-- the numbers of a text of just so many words, if each word writes one
abbrev pub numbers_of : ℕ → List ℕ → Option (List ℤ)
numbers_of count text = cond (length (words_of text) == count) (numbers_in (words_of text)) None
