-- The lines of a text.
use Rattle.std.proofs.Common.{◌≡◌, ℕ, ◌+◌, List, [], ◌∷◌, refl, ap, ◌∙◌, Result, Ok, Err}
use Rattle.std.specs.Str.Lines.{lines}
use Rattle.match_core.specs.declared.signatures.Signature.{Signature}
use Rattle.match_core.specs.declared.entries.Entries.{Entries}
use Rattle.p4x_fault.specs.declared.Fault.{Fault}
use Rattle.entries_file.specs.declared.fault.Stop.{Stop}
use Rattle.entries_file.specs.declared.fault.Stop.TheVariants.{Memory, Broken}
use Rattle.entries_file.specs.declared.draft.Draft.{Draft}
use Rattle.entries_file.specs.Reading.{Judgement, judge_line, read_lines, fault_at}
use Rattle.entries_file.specs.internal.Drafts.{fault_of, IsJudged, IsRead}

-- no line is left
pub read_end : (g : Signature) (read : Entries) (line : ℕ) (text : List ℕ) → lines text ≡ [] → read_lines g read line (lines text) ≡ Ok read
read_end g read line text none = ap (read_lines g read line) none

-- a line is read before others
pub read_next : (g : Signature) (read next : Entries) (line : ℕ) (text one more : List ℕ) → lines text ≡ one ∷ lines more → judge_line g read one ≡ Ok next → read_lines g read line (lines text) ≡ read_lines g next (line + 1) (lines more)
read_next g read next line text one more first is = ap (read_lines g read line) first ∙ (rw is refl)

pub refused_next : (g : Signature) (read : Entries) (line rule : ℕ) (text one more : List ℕ) → lines text ≡ one ∷ lines more → judge_line g read one ≡ Err rule → read_lines g read line (lines text) ≡ Err (fault_at line rule)
refused_next g read line rule text one more first is = ap (read_lines g read line) first ∙ (rw is refl)

-- a line that isn't taken
pub refused_read : (g : Signature) (read : Result Entries Fault) (draft : Draft) (judgement : Judgement) (line : ℕ) (stop : Stop) → IsJudged g judgement draft (Err stop) → ((rule : ℕ) → judgement ≡ Err rule → read ≡ Err (fault_at line rule)) → IsRead g read draft (Err (fault_of line stop))
refused_read g read draft judgement line Memory is tells = tt
refused_read g read draft judgement line (Broken rule) is tells = tells rule is
