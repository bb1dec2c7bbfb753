-- What one write after another leaves. Assumes nothing.
use Rattle.std.proofs.Common.{◌≡◌, ℕ, zero, suc, ◌+◌, ◌-◌, ◌*◌, ◌<◌, ◌≤◌, List, [], ◌∷◌, ◌++◌, map, length, get_or, take, drop, replicate, sym, refl, ap, ◌∙◌, arith, length-append, take-add}
use Rattle.std.proofs.lemmas.List.FromFn.{length-range_with_len, map-range_with_len_more}
use Rattle.std.proofs.lemmas.List.Edits.{paste_all, paste-paste}
use Rattle.std.proofs.lemmas.List.{length-map, take-map, drop-map, length-take, append_assoc, append-nil, take_more, flat_map_more, take-replicate, drop-replicate, length-take-le, take_at, drop_all, drop_at, drop-drop, map-id}
use Rattle.std.specs.List.{range_with_len, flat_map}
use lib.Seq.{paste}
use Rattle.plates.specs.declared.fields.PlateFields.{PlateFields}
use Rattle.claims.specs.declared.fixtures.Fixture.{Fixture}
use Rattle.floors.specs.Bytes.{written, sealed, le_bytes, checksum, i64_bytes}
use Rattle.floors.specs.Blocks.{head_bytes, body, fixture_record}
use Rattle.floors.specs.Floors.{floor_block, floor_file, blocks_for}
use Rattle.floors.specs.declared.layout.BlockKind.TheVariants.{Fixtures}
use Rattle.floors.specs.Kinds.{block_kind}
use Rattle.plates.specs.Fields.{numbers_of}
use Rattle.claims.specs.Things.{fixture_counted}
use Rattle.floor_writer.specs.Writing.{rows_in, records_in}
use Rattle.floors.proofs.Pieces.{length_joined}
use Rattle.floors.proofs.Records.{length_i64, length_fixture}
use Rattle.floors.proofs.ReadingBack.{length_file}

-- a write that goes on where another ended
pub written_on : (d : List ℕ) (at : ℕ) (s t b : List ℕ) (at' : ℕ) → at ≤ length d → b ≡ written d at s → at' ≡ at + length s → written b at' t ≡ written d at (s ++ t)
written_on d at s t b at' h e q =
    let n = length s in
    let m = length t in
    let first : b ≡ paste d at s n = e ∙ sym (paste_all d at s n refl) in
    sym (paste_all b at' t m refl) ∙ ap (λ a. paste b a t m) q ∙ ap (λ l. paste l (at + n) t m) first
    ∙ paste-paste d at s t n m refl refl h
    ∙ ap (paste d at (s ++ t)) (sym (length-append s t)) ∙ paste_all d at (s ++ t) (length (s ++ t)) refl

-- one more record
module _ {X : Type 0} (g : X → List ℕ) (size : ℕ) (sized : (x : X) → length (g x) ≡ size) where
  pub records_more : (d : List ℕ) (at : ℕ) (xs : List X) (k : ℕ) (z : X) (b : List ℕ) → at ≤ length d → k < length xs
      → b ≡ written d at (flat_map g (take k xs)) → written b (at + size * k) (g (get_or xs k z)) ≡ written d at (flat_map g (take (k + 1) xs))
  records_more d at xs k z b h l eb =
      let len : length (flat_map g (take k xs)) ≡ size * k = length_joined g size sized (take k xs) ∙ ap (λ n. size * n) (length-take-le k xs (omega arith)) in
      written_on d at (flat_map g (take k xs)) (g (get_or xs k z)) b (at + size * k) h eb (ap (λ n. at + n) (sym len))
      ∙ ap (written d at) (flat_map_more g [] (take k xs) (get_or xs k z) ∙ ap (flat_map g) (sym (take_more xs k z l)))

-- the checksum at the end of a block
pub seal_on : (block end b : List ℕ) → length block ≡ 512 → end ≡ le_bytes 2 (checksum (take 510 block)) → b ≡ written block 510 end → b ≡ sealed (take 510 block)
seal_on block end b len e w =
    let two : length end ≡ 2 = ap length e in
    w ∙ ap (λ l. take 510 block ++ (end ++ l)) (drop_all (510 + length end) block (omega arith))
    ∙ ap (λ l. take 510 block ++ l) (append-nil end ∙ e)

-- the five fields of a fixture
pub fixture_on : (d : List ℕ) (at : ℕ) (f : Fixture) (d1 d2 d3 d4 d5 : List ℕ) → at ≤ length d → d1 ≡ written d at (le_bytes 4 f.label)
    → d2 ≡ written d1 (at + 4) (i64_bytes f.x.low) → d3 ≡ written d2 (at + 12) (i64_bytes f.x.high)
    → d4 ≡ written d3 (at + 20) (i64_bytes f.y.low) → d5 ≡ written d4 (at + 28) (i64_bytes f.y.high)
    → d5 ≡ written d at (fixture_record f)
fixture_on d at f d1 d2 d3 d4 d5 h e1 e2 e3 e4 e5 =
    let a = le_bytes 4 f.label in
    let b = i64_bytes f.x.low in
    let c = i64_bytes f.x.high in
    let x = i64_bytes f.y.low in
    let y = i64_bytes f.y.high in
    let f2 = e2 ∙ written_on d at a b d1 (at + 4) h e1 (omega arith) in
    let f3 = e3 ∙ written_on d at (a ++ b) c d2 (at + 12) h f2 (simp length-append (omega arith)) in
    let f4 = e4 ∙ written_on d at ((a ++ b) ++ c) x d3 (at + 20) h f3 (simp length-append (omega arith)) in
    let f5 = e5 ∙ written_on d at (((a ++ b) ++ c) ++ x) y d4 (at + 28) h f4 (simp length-append (omega arith)) in
    let g : (((a ++ b) ++ c) ++ x) ++ y ≡ a ++ (b ++ (c ++ (x ++ y))) = simp append_assoc in
    f5 ∙ ap (written d at) g

-- a cleared block with a head and records
pub framed : (i count : ℕ) (rs b0 b1 b2 : List ℕ) → length rs ≤ 502 → b0 ≡ replicate 512 0 → b1 ≡ written b0 0 (head_bytes i count) → b2 ≡ written b1 8 rs
    → (take 510 b2 ≡ body i count rs)
framed i count rs b0 b1 b2 h e0 e1 e2 =
    let n = length rs in
    let head = head_bytes i count in
    let start : b1 ≡ head ++ replicate 504 0 = e1 ∙ ap (λ l. head ++ l) (ap (drop 8) e0 ∙ drop-replicate 8 512 0) in
    let past : drop (8 + n) b1 ≡ replicate (504 - n) 0 = sym (drop-drop n 8 b1) ∙ ap (λ l. drop n (drop 8 l)) start ∙ drop-replicate n 504 0 in
    let all : b2 ≡ head ++ (rs ++ replicate (504 - n) 0) = e2 ∙ ap (λ l. take 8 l ++ (rs ++ drop (8 + n) b1)) start ∙ ap (λ l. head ++ (rs ++ l)) past in
    let m : n + (502 - n) ≡ 502 = omega arith in
    let zeros : List ℕ = replicate (504 - n) 0 in
    let cut : take 502 (rs ++ zeros) ≡ rs ++ replicate (502 - n) 0 =
    ap (λ k. take k (rs ++ zeros)) (sym m) ∙ take-add n (502 - n) (rs ++ zeros) ∙ ap (λ l. l ++ take (502 - n) (drop n (rs ++ zeros))) (take_at rs zeros n refl)
    ∙ ap (λ l. rs ++ take (502 - n) l) (drop_at rs zeros n refl) ∙ ap (λ l. rs ++ l) (take-replicate (502 - n) (504 - n) 0 (omega arith)) in
    ap (take 510) all ∙ ap (λ l. head ++ l) cut

-- ---- the rows and the records of one block

rows_counted : (rows : List Fixture) (i : ℕ) → map fixture_counted (rows_in rows i) ≡ rows_in (map fixture_counted rows) i
rows_counted rows zero = refl
rows_counted rows (suc i) = sym (ap (take 13) (drop-map fixture_counted (13 * i) rows) ∙ take-map fixture_counted 13 (drop (13 * i) rows))

pub later_records : (plate : PlateFields) (rows : List Fixture) (i : ℕ) → Fixtures ≡ block_kind i
    → flat_map fixture_record (map fixture_counted (rows_in rows i)) ≡ records_in plate (map fixture_counted rows) i
later_records plate rows zero h = cc
later_records plate rows (suc i) h = ap (flat_map fixture_record) (rows_counted rows (suc i))

records_fit : (plate : PlateFields) (rows : List Fixture) (i : ℕ) → length (records_in plate rows i) ≤ 502
records_fit plate rows zero = let n = length_joined i64_bytes 8 length_i64 (numbers_of plate) in omega (arith, n)
records_fit plate rows (suc i) =
    let n = length_joined fixture_record 36 length_fixture (rows_in rows (suc i)) in
    omega (arith, n, length-take {A = Fixture})

block_is : (plate : PlateFields) (rows : List Fixture) (i : ℕ) → sealed (body i (length (rows_in rows i)) (records_in plate rows i)) ≡ floor_block plate rows i
block_is plate rows zero = refl
block_is plate rows (suc i) = refl

-- a block from zeros to its checksum
pub block_on : (plate : PlateFields) (rows : List Fixture) (i : ℕ) (b0 b1 b2 b3 : List ℕ)
    → b0 ≡ replicate 512 0 → b1 ≡ written b0 0 (head_bytes i (length (rows_in rows i))) → b2 ≡ written b1 8 (records_in plate (map fixture_counted rows) i) → b3 ≡ sealed (take 510 b2)
    → b3 ≡ floor_block plate (map fixture_counted rows) i
block_on plate rows i b0 b1 b2 b3 e0 e1 e2 e3 =
    let counted = map fixture_counted rows in
    let rs = records_in plate counted i in
    let many : length (rows_in rows i) ≡ length (rows_in counted i) = sym (length-map (rows_in rows i) fixture_counted) ∙ ap length (rows_counted rows i) in
    e3 ∙ ap sealed (framed i (length (rows_in rows i)) rs b0 b1 b2 (records_fit plate counted i) e0 e1 e2) ∙ ap (λ n. sealed (body i n rs)) many ∙ block_is plate counted i

-- one more block of the file
pub blocks_more : (g : ℕ → List ℕ) → ((i : ℕ) → length (g i) ≡ 512) → (d : List ℕ) (k : ℕ) (b : List ℕ) → 512 * k + 512 ≤ length d
    → b ≡ flat_map g (range_with_len 0 k) ++ drop (512 * k) d → take (512 * k) b ++ (g k ++ drop (512 * k + 512) b) ≡ flat_map g (range_with_len 0 (k + 1)) ++ drop (512 * (k + 1)) d
blocks_more g sized d k b h e =
    let front = flat_map g (range_with_len 0 k) in
    let lf : length front ≡ 512 * k = length_joined g 512 sized (range_with_len 0 k) ∙ ap (λ n. 512 * n) (length-range_with_len 0 k) in
    let t : take (512 * k) b ≡ front = ap (take (512 * k)) e ∙ take_at front (drop (512 * k) d) (512 * k) lf in
    let n : 512 * k + 512 ≡ 512 * (k + 1) = omega arith in
    let r : drop (512 * k + 512) b ≡ drop (512 * (k + 1)) d =
    sym (drop-drop 512 (512 * k) b) ∙ ap (λ l. drop 512 (drop (512 * k) l)) e
    ∙ ap (drop 512) (drop_at front (drop (512 * k) d) (512 * k) lf) ∙ drop-drop 512 (512 * k) d ∙ ap (λ n. drop n d) n in
    let counted : range_with_len 0 (k + 1) ≡ range_with_len 0 k ++ (k ∷ []) =
    sym (map-id (range_with_len 0 (k + 1))) ∙ map-range_with_len_more (λ x. x) 0 k k (omega arith) ∙ ap (λ l. l ++ (k ∷ [])) (map-id (range_with_len 0 k)) in
    let more : flat_map g (range_with_len 0 (k + 1)) ≡ front ++ g k = ap (flat_map g) counted ∙ sym (flat_map_more g [] (range_with_len 0 k) k) in
    ap (λ l. l ++ (g k ++ drop (512 * k + 512) b)) t ∙ ap (λ l. front ++ (g k ++ l)) r
    ∙ sym (append_assoc front (g k) (drop (512 * (k + 1)) d)) ∙ ap (λ l. l ++ drop (512 * (k + 1)) d) (sym more)

-- all blocks
pub file_on : (plate : PlateFields) (rows : List Fixture) (out b : List ℕ) (k : ℕ) → k ≡ blocks_for (length rows)
    → b ≡ flat_map (floor_block plate rows) (range_with_len 0 k) ++ drop (512 * k) out → b ≡ floor_file plate rows ++ drop (length (floor_file plate rows)) out
unfolding floor_file
file_on plate rows out b k e i =
    i ∙ ap (λ n. flat_map (floor_block plate rows) (range_with_len 0 n) ++ drop (512 * n) out) e
    ∙ ap (λ n. floor_file plate rows ++ drop n out) (sym (length_file plate rows))
