-- How the lent words show a ledger, and the lent bytes a table. Every word and every byte is read whole, so nothing is lost.
use Rattle.std.proofs.Math.Option.{Option, none, some}
use Rattle.std.specs.Prelude.{ℕ, ◌+◌, ◌-◌, ◌*◌, ◌/◌, ◌%◌, ◌^◌, ◌<◌, ◌≡◌, Bool, cond, List, ltb, eqb, length, get_or}
use Rattle.sets.specs.Set.{member}
use Rattle.rules.specs.Page.{Page, Table, page}
use Rattle.rules.specs.Fence.{Tracker}
use Rattle.rules.specs.Ledger.{Ledger, Place, inside, outside}
use Rattle.rules.specs.Calls.{Call}
use Rattle.rules.specs.Step.{Answer, State, step}

-- the words by their place
abbrev pub read : List ℕ → ℕ → ℕ
read ws i = get_or ws i 0

-- the run of n words from base on, and one of rows of words; 0 past their ends
abbrev pub part : (ℕ → ℕ) → ℕ → ℕ → ℕ → ℕ
part w base n i = cond (ltb i n) (w (base + i)) 0

abbrev pub cell : (ℕ → ℕ) → ℕ → ℕ → ℕ → ℕ → ℕ → ℕ
cell w base rows columns k i = cond (ltb i columns) (part w base (rows * columns) (columns * k + i)) 0

-- a set is in the binary digits of a number
abbrev pub bits : ℕ → ℕ → Bool
bits s j = member j s

-- a fence's word: bits 0 to 15 are the version, 16 to 23 the awaited harts; bits 24 to 31 hold something else, as said below
abbrev pub tracker_of : ℕ → Tracker
tracker_of x = record { version = x % 65536; awaited = bits (x / 65536 % 256) }

abbrev pub upper : ℕ → ℕ
upper x = x / 16777216

-- a word that is 0 says outside, or never
abbrev pub place_of : ℕ → Place
place_of x = cond (eqb x 0) outside (inside ((x - 1) / 8) ((x - 1) % 8))

abbrev pub mark_of : ℕ → Option ℕ
mark_of x = cond (eqb x 0) none (some (x - 1))

-- The ledger's 426 words: the global fence with the number of harts above it, the pages; 16 fences with the vCPUs made above each,
-- 16 phases, 16 rows of 8 regions' first pages and of their numbers of pages; 8 places, 8 rows of 16 marks
unfoldable pub view_of : (ℕ → ℕ) → Ledger
view_of w = record {
  harts = upper (w 0);
  pages = w 1;
  global = tracker_of (w 0);
  slot = λ k. record {
    phase = part w 18 16 k;
    fence = tracker_of (part w 2 16 k);
    made = bits (upper (part w 2 16 k));
    region = λ i. record { first = cell w 34 16 8 k i; pages = cell w 162 16 8 k i };
  };
  hart = λ j. record { place = place_of (part w 290 8 j); mark = λ k. mark_of (cell w 298 8 16 j k) };
}

abbrev pub view : List ℕ → Ledger
view ws = view_of (read ws)

-- "Eight bytes: kind (1), slot (1), version (2), guest page (4), little endian."
abbrev pub page_at : List ℕ → ℕ → Page
page_at b a =
    page (get_or b a 0) (get_or b (a + 1) 0) (get_or b (a + 2) 0 + 256 * get_or b (a + 3) 0)
    (get_or b (a + 4) 0 + 256 * get_or b (a + 5) 0 + 65536 * get_or b (a + 6) 0 + 16777216 * get_or b (a + 7) 0)

unfoldable pub pages_of : List ℕ → Table
pages_of b = record { bytes = length b; page = λ i. page_at b (8 * i) }

abbrev pub state_of : List ℕ → List ℕ → State
state_of ws b = record { ledger = view ws; table = pages_of b }

-- n numbers below top
pub record Numbers (n top : ℕ) (xs : List ℕ) : Type 0 where
  pub size : length xs ≡ n
  pub small : (i : ℕ) → get_or xs i 0 < top

-- A call on the words `ws` and the bytes `b` answers a, and leaves the words ws' and the bytes b'
pub record Called (ws b : List ℕ) (c : Call) (a : Answer) (ws' b' : List ℕ) : Type 0 where
  pub answer : a ≡ (step (state_of ws b) c).answer
  pub state : state_of ws' b' ≡ (step (state_of ws b) c).after
  pub words : Numbers 426 (2 ^ 32) ws'
  pub bytes : Numbers (length b) 256 b'
