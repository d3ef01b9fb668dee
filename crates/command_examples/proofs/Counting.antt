-- Counts that grow.
use Rattle.std.proofs.Common.{◌≤◌, ℕ, Bool, true, false, if◌then◌else◌, List, codes}
use Rattle.std.specs.Str.{bytes_eq}
use Rattle.command_examples.specs.declared.named.Counts.{Counts}
use Rattle.command_examples.specs.internal.Counted.{count_of}

one_of : (test : Bool) (a b c d : ℕ) → a ≤ b → c ≤ d → (if test then a else c) ≤ (if test then b else d)
one_of true a b c d first rest = first
one_of false a b c d first rest = rest

pub count_grows : (a b : Counts) → a.program ≤ b.program → a.entries ≤ b.entries → a.capture ≤ b.capture → a.text ≤ b.text → a.sent ≤ b.sent → a.report ≤ b.report → a.others ≤ b.others
    → (name : List ℕ) → count_of a name ≤ count_of b name
count_grows a b program entries capture text sent report others name =
    one_of (bytes_eq name (codes "p")) _ _ _ _ program
    (one_of (bytes_eq name (codes "e")) _ _ _ _ entries
    (one_of (bytes_eq name (codes "c")) _ _ _ _ capture
    (one_of (bytes_eq name (codes "t")) _ _ _ _ text
    (one_of (bytes_eq name (codes "s")) _ _ _ _ sent (one_of (bytes_eq name (codes "r")) _ _ _ _ report others)))))
