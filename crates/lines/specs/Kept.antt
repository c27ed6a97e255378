-- What is kept of a line.
use Rattle.std.specs.Prelude.{◌≡◌, ℕ, ◌<◌, ◌≤◌, List, length, vec_items, ◌≢◌, slice_index, IfOk, IfSome, Option, Result}
use Rattle.std.specs.Borrow.{Bor}
use Rattle.std.specs.Io.Buffered.{reader_buffer}
use Rattle.lines.specs.declared.Lines.{Lines}

abbrev pub line_of : {R : Type 0} → Lines R → List ℕ
line_of l = vec_items l.line

-- what was read of the input and is in no line yet
abbrev pub ahead_of : {R : Type 0} → Lines R → List ℕ
ahead_of l = reader_buffer l.input

-- at most this many bytes, and none of them ends a line
pub record Kept (most : ℕ) (s : List ℕ) : Type 0 where
  pub short : length s ≤ most
  pub unbroken : (k : ℕ) → k < length s → slice_index s k ≢ 10

-- l keeps its limit and a line within it, whatever came, and that line is the one that was given
abbrev pub Gives : {R E : Type 0} → ℕ → Result (Option (Bor (List ℕ))) E → Lines R → Type 0
Gives most r l = (l.most ≡ most) × Kept most (line_of l) × IfOk r (λ next. IfSome next (λ line. line.now ≡ line_of l))
