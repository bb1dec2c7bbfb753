-- What reading answers and leaves, and that exactly what can be written is read. Assumes nothing.
use denote.Param.Members.{Mut}
use Rattle.std.specs.Array.{IsFromFnResult, IsFromFnResultFrom}
use Rattle.std.specs.Fn.{Called}
use Rattle.std.specs.Simd.{first_chunks}
use Rattle.floors.proofs.Chunks.{chunk_at}
use Rattle.floors.specs.Blocks.{block_refused}
use Rattle.std.proofs.Common.{◌≡◌, ℕ, zero, suc, subst, add-zero, zero-add, ◌+◌, ◌-◌, ◌*◌, ◌/◌, ◌<◌, ◌≤◌, List, [], ◌∷◌, ◌++◌, map, length, get_or, take, drop, set, Ok, Err, Result, Some, None, IsErr, sym, refl, ap, ◌∙◌, arith}
use Rattle.std.proofs.lemmas.List.FromFn.{fill_by_all, length-map-range_with_len, map-range_with_len_more}
use Rattle.std.proofs.lemmas.List.{length-take-le, length-drop, get_or-take, get_or-drop, drop_more, set_at, append_assoc, take_at}
use Rattle.std.specs.List.{range_with_len}
use Rattle.refusals.specs.Refusals.{Refusal}
use Rattle.plates.specs.Plates.{held}
use Rattle.claims.specs.declared.fixtures.Fixture.{Fixture}
use Rattle.floors.specs.declared.faults.BlockFault.{BlockFault}
use Rattle.floors.specs.Bytes.{Octets}
use Rattle.floors.specs.Floors.{block_in, refused_in, floor_refused, plate_in, fixture_count, row_in, fixtures_in}
use Rattle.floors.proofs.Exact.{read_was_written, read_if_written}
use Rattle.floors.proofs.Firsts.{first_among_more}
use Rattle.floors.proofs.Frames.{frame_few, block_row_fault, block_no_fault}
use Rattle.floor_reader.specs.declared.reading.Floor.{Floor}
use Rattle.floor_reader.specs.Reading.{Written, ReadExactly}

-- one more row of a table that is filled from its start
pub fill_row : {X : Type 0} (f : ℕ → X) (table : List X) (k : ℕ) → k < length table
    → set (map f (range_with_len 0 k) ++ drop k table) k (f k) ≡ map f (range_with_len 0 (k + 1)) ++ drop (k + 1) table
fill_row f table k h =
    let e = drop_more table k (f k) h in
    rw e (set_at (map f (range_with_len 0 k)) (get_or table k (f k)) (drop (k + 1) table) (f k) k (length-map-range_with_len f 0 k)
    ∙ sym (ap (λ l. l ++ drop (k + 1) table) (map-range_with_len_more f 0 k k (omega arith)) ∙ append_assoc (map f (range_with_len 0 k)) (f k ∷ []) (drop (k + 1) table)))

-- bytes that are not refused were written
pub written : (bytes : List ℕ) → Octets bytes → floor_refused bytes ≡ None → Written bytes
written bytes octets fine =
    let w = read_was_written bytes (plate_in bytes) (fixtures_in bytes) octets (record { fine = fine; plate_is = refl; rows_are = refl }) in
    record { writable = w.0; same = w.1 }

-- the promise at each return of `read_floor`: of bytes that are refused, of a table that is too short, and of a floor that is read
module _ (bytes : List ℕ) (table : List Fixture) where
  length_rows : length (fixtures_in bytes) ≡ fixture_count bytes
  unfolding fixtures_in
  length_rows = length-map-range_with_len (row_in bytes) 0 (fixture_count bytes)

  exact_none : (fault : BlockFault) → (floor_refused bytes ≡ None → fixture_count bytes ≤ length table → ⊥) → ReadExactly bytes table (Err fault) table
  exact_none fault never = record {
    only = tt;
    every = λ plate fs w q h.
        let b = read_if_written bytes plate fs w q in
        let n = length_rows in
        let l = ap length b.rows_are in never b.fine (omega arith);
  }

  pub exact_refused : (r : Result Floor BlockFault) (e : Refusal) → IsErr r → floor_refused bytes ≡ Some e → ReadExactly bytes table r table
  exact_refused (Ok floor) e h f = absurd cc
  exact_refused (Err fault) e h f = exact_none fault (λ fine room. cc)

  pub exact_short : (r : Result Floor BlockFault) → IsErr r → length table < fixture_count bytes → ReadExactly bytes table r table
  exact_short (Ok floor) e h = absurd cc
  exact_short (Err fault) e h = exact_none fault (λ fine room. omega arith)

  pub exact_read : (floor : Floor) (after : List Fixture) → Written bytes → held floor.plate ≡ plate_in bytes → floor.count ≡ fixture_count bytes
      → after ≡ map (row_in bytes) (range_with_len 0 floor.count) ++ drop floor.count table → ReadExactly bytes table (Ok floor) after
  unfolding fixtures_in
  exact_read floor after w plate count t =
      let n = floor.count in
      let rows : take n after ≡ fixtures_in bytes = ap (take n) (t ∙ rw count) ∙ take_at (fixtures_in bytes) (drop (fixture_count bytes) table) n (length_rows ∙ sym count) in
      record {
        only = rw (plate, rows) (w.writable, w.same);
        every = λ p fs m e h. let b = read_if_written bytes p fs m e in (plate ∙ b.plate_is, rows ∙ b.rows_are);
      }

-- from the records of a block to its refusal
pub ruleset counting = (frame_few, block_row_fault, block_no_fault, first_among_more)

-- the array that a closure makes which computes h and leaves what it holds as it was
module _ {F B : Type 0} (g : Mut F (ℕ × Unit {0}) B) (f : F) (h : ℕ → B) (same : (k : ℕ) (y : B) (q : F) → Called g f (k, tt) y q → (q ≡ f) × (y ≡ h k)) where
  made_from : (ys : List B) (i n : ℕ) → IsFromFnResultFrom g f ys i n → (k : ℕ) (d : B) → k < n → get_or ys (i + k) d ≡ h (i + k)
  made_from ys i zero r k d l = absurd (omega arith)
  made_from ys i (suc n) r zero d l = rw add-zero (r.2.1 d ∙ (same i r.1 r.0 r.3).1)
  made_from ys i (suc n) r (suc k) d l =
      let rest = subst (λ q. IsFromFnResultFrom g q ys (i + 1) n) (same i r.1 r.0 r.3).0 r.4 in
      let e : i + 1 + k ≡ i + suc k = omega arith in
      rw e at (made_from ys (i + 1) n rest k d (omega arith))

  pub made : (ys : List B) (n : ℕ) (d : B) → IsFromFnResult g f ys n → ys ≡ map h (range_with_len 0 n)
  made ys n d r = fill_by_all h ys n d r.long (λ k l. rw zero-add at (made_from ys 0 n r.each k d l))

-- the blocks of a file, as `as_chunks` gives them
module _ (bytes : List ℕ) (blocks : List (List ℕ)) (front : blocks ≡ first_chunks 512 (length bytes / 512) bytes) (count : length blocks ≡ length bytes / 512) where
  pub first_is : 0 < length bytes / 512 → get_or blocks 0 [] ≡ block_in bytes 0
  unfolding block_in
  first_is h = rw front (chunk_at 512 (length bytes / 512) 0 bytes [] h)

  pub other_is : (k : ℕ) → k + 1 < length bytes / 512 → get_or (take (length blocks - 1) (drop 1 blocks)) k [] ≡ block_in bytes (k + 1)
  unfolding block_in
  other_is k h =
      let e : 1 + k ≡ k + 1 = omega arith in
      get_or-take (length blocks - 1) (drop 1 blocks) k [] (omega arith) ∙ get_or-drop 1 blocks k []
      ∙ ap (λ l. get_or l (1 + k) []) front ∙ rw e (chunk_at 512 (length bytes / 512) (k + 1) bytes [] h)

  pub first_long : 0 < length bytes / 512 → length (get_or blocks 0 []) ≡ 512
  unfolding block_in
  first_long h = ap length (first_is h) ∙ length-take-le 512 (drop 0 bytes) (omega arith)

  pub other_long : (k : ℕ) → k + 1 < length bytes / 512 → length (get_or (take (length blocks - 1) (drop 1 blocks)) k []) ≡ 512
  unfolding block_in
  other_long k h = ap length (other_is k h) ∙ length-take-le 512 (drop (512 * (k + 1)) bytes) (simp length-drop (omega arith))

  pub first_refused : 0 < length bytes / 512 → refused_in bytes 0 ≡ block_refused (length blocks) 0 (get_or blocks 0 [])
  first_refused h = sym (rw (count, first_is h))

  pub other_refused : (k : ℕ) → k + 1 < length bytes / 512 → refused_in bytes (k + 1) ≡ block_refused (length blocks) (k + 1) (get_or (take (length blocks - 1) (drop 1 blocks)) k [])
  other_refused k h = sym (rw (other_is k h, count))
