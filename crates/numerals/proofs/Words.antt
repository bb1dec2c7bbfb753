-- What one more word of a text does to what is read of it. Assumes nothing.
use Rattle.std.proofs.Common.{◌≡◌, ℕ, zero, suc, ◌+◌, ◌^◌, ◌<◌, ◌≤◌, Bool, true, false, cond, not, ◌&&◌, List, [], ◌∷◌, ◌++◌, length, take, Some, None, Ok, Err, Option, Result, ℤ, pos, neg_ℤ, sym, refl, ap, ◌∙◌, subst, append_assoc, append-nil, arith, length-append, rules, w64, SFits}
use Rattle.std.specs.Prelude.{nat_le, nat_lt, ◌==◌}
use Rattle.std.specs.Bool.{Decides}
use Rattle.std.specs.List.{list_all}
use Rattle.std.specs.Option.{option_map, option_and_then}
use Rattle.std.specs.Result.{result_ok}
use Rattle.std.specs.Char.{is_whitespace, is_not_whitespace, digit_value}
use Rattle.std.specs.Str.{chars, encode_utf8_all, IsUtf8, NonePass, NoCharPasses, EmptyOrStartsWithPassing}
use Rattle.std.specs.Str.Parse.{AllDigits, IsNumeral, ParsesSigned, digits_value, starts_with_minus, without_leading_sign, signed_digits_value}
use Rattle.std.proofs.lemmas.List.{take_all}
use Rattle.std.proofs.lemmas.Bool.{ne_eqb}
use Rattle.std.proofs.lemmas.Bool.Decides.{Decides-eqb, Decides-ltb, Decides-and, Decides-like}
use Rattle.std.proofs.lemmas.Str.{chars-nil, chars_past_char, chars_from_encodes, IsUtf8-past_char}
use Rattle.numerals.specs.Reading.{before_words, words_after, words_of, is_numeral, in_64_bits, number_of, numbers_in, numbers_of}

-- ---- the words

-- characters and then a text
chars_past : (cs bs : List ℕ) → IsUtf8 (encode_utf8_all cs ++ bs) → IsUtf8 bs × (chars (encode_utf8_all cs ++ bs) ≡ cs ++ chars bs)
chars_past [] bs u = (u, refl)
chars_past (c ∷ cs) bs u =
    let rest : List ℕ = encode_utf8_all cs ++ bs in
    let e = append_assoc _ (encode_utf8_all cs) bs in
    let more = chars_past cs bs (IsUtf8-past_char _ rest c u e) in
    (more.0, chars_past_char _ rest c u e ∙ ap (λ l. c ∷ l) more.1)

unnegated : (b : Bool) → not b ≡ false → b ≡ true
unnegated true h = refl
unnegated false h = sym h

-- white space before the words
past_gap : (gap cs : List ℕ) → NonePass is_not_whitespace gap → words_after [] (gap ++ cs) ≡ words_after [] cs
past_gap [] cs h = refl
past_gap (c ∷ gap) cs h =
    ap (λ b. cond b (words_after [] (gap ++ cs)) (words_after (c ∷ []) (gap ++ cs))) (unnegated (is_whitespace c) h.0) ∙ past_gap gap cs h.1

-- the characters of a word
past_word : (word begun cs : List ℕ) → NonePass is_whitespace word → words_after begun (word ++ cs) ≡ words_after (begun ++ word) cs
past_word [] begun cs h = ap (λ l. words_after l cs) (sym (append-nil begun))
past_word (c ∷ word) begun cs h =
    ap (λ b. cond b (before_words begun (words_after [] (word ++ cs))) (words_after (begun ++ (c ∷ [])) (word ++ cs))) h.0
    ∙ past_word word (begun ++ (c ∷ [])) cs h.1 ∙ ap (λ l. words_after l cs) (append_assoc begun (c ∷ []) word)

-- where a word ends
word_ends : (c : ℕ) (cs rest more : List ℕ) → IsUtf8 rest → EmptyOrStartsWithPassing is_whitespace rest more
    → words_after (c ∷ cs) (chars rest) ≡ encode_utf8_all (c ∷ cs) ∷ words_of rest
word_ends c cs [] more u h = rw chars-nil refl
word_ends c cs (b ∷ bs) more u h =
    let starts = h (omega arith) in
    let d = starts.0 in
    let spelt = chars_past_char (b ∷ bs) more d u starts.2 in
    let word = encode_utf8_all (c ∷ cs) in
    ap (words_after (c ∷ cs)) spelt ∙ ap (λ w. cond w (word ∷ words_after [] (chars more)) (words_after ((c ∷ cs) ++ (d ∷ [])) (chars more))) starts.1
    ∙ ap (λ l. word ∷ l) (sym (ap (words_after []) spelt ∙ ap (λ w. cond w (words_after [] (chars more)) (words_after (d ∷ []) (chars more))) starts.1))

-- a word that the library gives is the first of the words
pub record First (text word rest : List ℕ) : Type 0 where
  pub utf8 : IsUtf8 rest
  pub words : words_of text ≡ word ∷ words_of rest

from_chars : (gap word text rest : List ℕ) → IsUtf8 text → text ≡ encode_utf8_all gap ++ (encode_utf8_all word ++ rest) → 0 < length (encode_utf8_all word)
    → NonePass is_not_whitespace gap → NonePass is_whitespace word → ((more : List ℕ) × EmptyOrStartsWithPassing is_whitespace rest more) → First text (encode_utf8_all word) rest
from_chars gap [] text rest u e some blank solid ends = let w : ⊥ = omega arith in absurd w
from_chars gap (c ∷ cs) text rest u e some blank solid ends =
    let word = c ∷ cs in
    let after : List ℕ = encode_utf8_all word ++ rest in
    let first = chars_past gap after (subst IsUtf8 e u) in
    let second = chars_past word rest first.0 in
    record {
      utf8 = second.0;
      words = ap words_of e ∙ ap (words_after []) first.1 ∙ past_gap gap (chars after) blank ∙ ap (words_after []) second.1
          ∙ past_word word [] (chars rest) solid ∙ word_ends c cs rest ends.0 second.0 ends.1;
    }

pub first_word : (text word rest : List ℕ) → IsUtf8 text
    → (gap : List ℕ) × (text ≡ gap ++ (word ++ rest)) × (0 < length word) × NoCharPasses is_not_whitespace gap × NoCharPasses is_whitespace word
    × ((more : List ℕ) × EmptyOrStartsWithPassing is_whitespace rest more) → First text word rest
first_word text word rest u (gap, e, some, blank, solid, ends) =
    let g = blank.1 in
    let w = solid.1 in
    subst (λ l. First text l rest) w
    (from_chars blank.0 solid.0 text rest u (e ∙ sym (ap (λ l. l ++ (encode_utf8_all solid.0 ++ rest)) g ∙ ap (λ l. gap ++ (l ++ rest)) w)) (omega (arith, ap length w)) blank.2 solid.2 ends)

pub no_word : (text : List ℕ) → IsUtf8 text → NoCharPasses is_not_whitespace text → words_of text ≡ []
no_word text u (cs, e, blank) = ap (words_after []) (sym (chars_from_encodes cs text u e) ∙ sym (append-nil cs)) ∙ past_gap cs [] blank

-- ---- the number of a word

same_cond : {A : Type 0} {a : A} (b : Bool) → cond b a a ≡ a
same_cond true = refl
same_cond false = refl

not_true : (b : Bool) → ¬ (b ≡ true) → b ≡ false
not_true true h = absurd (h refl)
not_true false h = refl

digits_decided : (ds : List ℕ) → Decides (list_all (λ c. nat_lt (digit_value c) 10) ds) (AllDigits 10 ds)
digits_decided [] = (λ _. tt, λ _. refl)
digits_decided (c ∷ cs) = Decides-and _ _ (Decides-ltb (digit_value c) 10) (digits_decided cs)

numeral_decided : (ds : List ℕ) → Decides (is_numeral ds) (IsNumeral 10 ds)
numeral_decided ds = Decides-and _ _ (Decides-ltb 0 (length ds)) (digits_decided ds)

size_decided : (minus : Bool) (n : ℕ) → Decides (cond minus (nat_le n (2 ^ 63)) (nat_lt n (2 ^ 63))) (SFits w64 (cond minus (neg_ℤ (pos n)) (pos n)))
size_decided true zero = (λ _. search rules, λ _. refl)
size_decided true (suc n) = Decides-like _ (λ (h : n < 2 ^ 63). search rules) (λ (h : SFits w64 (neg_ℤ (pos (suc n)))). search rules) (Decides-ltb n (2 ^ 63))
size_decided false n = Decides-like _ (λ (h : n < 2 ^ 63). search rules) (λ (h : SFits w64 (pos n)). search rules) (Decides-ltb n (2 ^ 63))

word_decided : (word : List ℕ) → Decides (is_numeral (without_leading_sign word) && in_64_bits word) (IsNumeral 10 (without_leading_sign word) × SFits w64 (signed_digits_value 10 word))
word_decided word = Decides-and _ _ (numeral_decided (without_leading_sign word)) (size_decided (starts_with_minus word) (digits_value 10 (without_leading_sign word)))

pub number_parsed : {E : Type 0} (word : List ℕ) (r : Result ℤ E) → ParsesSigned w64 10 word r → number_of word ≡ result_ok r
number_parsed word (Ok z) h = ap (λ b. cond b (Some (signed_digits_value 10 word)) None) ((word_decided word).1 h.0) ∙ ap Some (sym h.1)
number_parsed word (Err e) h = ap (λ b. cond b (Some (signed_digits_value 10 word)) None) (not_true _ (λ q. h ((word_decided word).0 q)))

-- ---- the numbers of words

-- those of some words and then of others
then_numbers : Option (List ℤ) → Option (List ℤ) → Option (List ℤ)
then_numbers o p = option_and_then (λ ns. option_map (λ ms. ns ++ ms) p) o

one_before : (o : Option ℤ) (p q : Option (List ℤ)) → option_and_then (λ n. option_map (λ ns. n ∷ ns) (then_numbers p q)) o ≡ then_numbers (option_and_then (λ n. option_map (λ ns. n ∷ ns) p) o) q
unfolding then_numbers
one_before None p q = refl
one_before (Some n) None q = refl
one_before (Some n) (Some ns) None = refl
one_before (Some n) (Some ns) (Some ms) = refl

none_before : (o : Option (List ℤ)) → o ≡ then_numbers (Some []) o
unfolding then_numbers
none_before None = refl
none_before (Some ns) = refl

numbers_in-append : (seen words : List (List ℕ)) → numbers_in (seen ++ words) ≡ then_numbers (numbers_in seen) (numbers_in words)
numbers_in-append [] words = none_before (numbers_in words)
numbers_in-append (w ∷ seen) words =
    ap (λ o. option_and_then (λ n. option_map (λ ns. n ∷ ns) o) (number_of w)) (numbers_in-append seen words)
    ∙ one_before (number_of w) (numbers_in seen) (numbers_in words)

-- ---- what is read so far: the words seen, and what is left of the text

pub record ReadSoFar (text rest : List ℕ) (count : ℕ) (numbers : List ℤ) : Type 0 where
  pub seen : List (List ℕ)
  pub words : words_of text ≡ seen ++ words_of rest
  pub utf8 : IsUtf8 rest
  pub many : length seen ≡ count
  pub read : numbers_in seen ≡ Some (take count numbers)

module _ {text rest : List ℕ} {count : ℕ} {numbers : List ℤ} (before : ReadSoFar text rest count numbers) where
  -- one word more
  pub read_more : (word after : List ℕ) (n : ℤ) (new : List ℤ) → First rest word after → number_of word ≡ Some n → take (count + 1) new ≡ take count numbers ++ (n ∷ [])
      → ReadSoFar text after (count + 1) new
  unfolding then_numbers
  read_more word after n new first q e = record {
    seen = before.seen ++ (word ∷ []);
    words = before.words ∙ ap (λ l. before.seen ++ l) first.words ∙ sym (append_assoc before.seen (word ∷ []) (words_of after));
    utf8 = first.utf8;
    many = length-append before.seen (word ∷ []) ∙ ap (λ n. n + 1) before.many;
    read = numbers_in-append before.seen (word ∷ []) ∙ ap (λ o. then_numbers o (numbers_in (word ∷ []))) before.read
        ∙ ap (λ o. option_map (λ ms. take count numbers ++ ms) (option_and_then (λ n. option_map (λ ns. n ∷ ns) (Some [])) o)) q ∙ ap Some (sym e);
  }

  -- a word that is no number
  pub no_number : (word after : List ℕ) (n : ℕ) → First rest word after → number_of word ≡ None → numbers_of n text ≡ None
  unfolding then_numbers
  no_number word after n first q =
      let none : numbers_in (words_of text) ≡ None =
      ap numbers_in (before.words ∙ ap (λ l. before.seen ++ l) first.words) ∙ numbers_in-append before.seen (word ∷ words_of after)
      ∙ ap (λ o. then_numbers o (numbers_in (word ∷ words_of after))) before.read
      ∙ ap (λ o. option_map (λ ms. take count numbers ++ ms) (option_and_then (λ n. option_map (λ ns. n ∷ ns) (numbers_in (words_of after))) o)) q in
      ap (λ o. cond (length (words_of text) == n) o None) none ∙ same_cond (length (words_of text) == n)

  -- no word is left
  last : words_of rest ≡ [] → words_of text ≡ before.seen
  last e = before.words ∙ ap (λ l. before.seen ++ l) e ∙ append-nil before.seen

  -- another number of words
  other : (n : ℕ) → (length (words_of text) ≡ n → ⊥) → numbers_of n text ≡ None
  other n h = ap (λ b. cond b (numbers_in (words_of text)) None) (ne_eqb (length (words_of text)) n h)

  pub too_few : (n : ℕ) → words_of rest ≡ [] → count < n → numbers_of n text ≡ None
  too_few n e h = other n (λ q. omega (arith, before.many, ap length (last e)))

  pub too_many : (word after : List ℕ) (n : ℕ) → First rest word after → n ≤ count → numbers_of n text ≡ None
  too_many word after n first h =
      let long : length (words_of text) ≡ length before.seen + length (word ∷ words_of after) =
      ap length (before.words ∙ ap (λ l. before.seen ++ l) first.words) ∙ length-append before.seen (word ∷ words_of after) in
      other n (λ q. omega (arith, before.many, long))

  -- all words
  pub all_read : (n : ℕ) → words_of rest ≡ [] → count ≡ n → length numbers ≡ n → numbers_of n text ≡ Some numbers
  all_read n e c l =
      ap (λ b. cond b (numbers_in (words_of text)) None) ((Decides-eqb (length (words_of text)) n).1 (ap length (last e) ∙ before.many ∙ c))
      ∙ ap numbers_in (last e) ∙ before.read ∙ ap Some (take_all count numbers (omega arith))
