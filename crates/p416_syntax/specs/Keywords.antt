-- The words that are reserved, with their texts: those that the grammar quotes (P4_16 1.2, "P4 grammar"; which words
-- it quotes is this project's own).
use Rattle.std.specs.Prelude.{ℕ, Bool, List, [], ◌∷◌, codes}
use Rattle.std.specs.List.{list_any}
use Rattle.std.specs.Str.{bytes_eq}
use Rattle.p416_syntax.specs.declared.keyword.Keyword16.{Keyword16}
use Rattle.p416_syntax.specs.declared.keyword.Keyword16.TheVariants as word

-- the octets that a word is written with
abbrev pub keyword_text16 : Keyword16 → List ℕ
keyword_text16 word.V1Switch = codes "V1Switch"
keyword_text16 word.Main = codes "main"
keyword_text16 word.Header = codes "header"
keyword_text16 word.Bit = codes "bit"
keyword_text16 word.Struct = codes "struct"
keyword_text16 word.Parser = codes "parser"
keyword_text16 word.Control = codes "control"
keyword_text16 word.Apply = codes "apply"
keyword_text16 word.Bool = codes "bool"
keyword_text16 word.In = codes "in"
keyword_text16 word.Out = codes "out"
keyword_text16 word.InOut = codes "inout"
keyword_text16 word.Counter = codes "counter"
keyword_text16 word.DirectCounter = codes "direct_counter"
keyword_text16 word.Register = codes "register"
keyword_text16 word.Meter = codes "meter"
keyword_text16 word.Action = codes "action"
keyword_text16 word.Table = codes "table"
keyword_text16 word.Key = codes "key"
keyword_text16 word.Actions = codes "actions"
keyword_text16 word.NoAction = codes "NoAction"
keyword_text16 word.Size = codes "size"
keyword_text16 word.Counters = codes "counters"
keyword_text16 word.DefaultAction = codes "default_action"
keyword_text16 word.State = codes "state"
keyword_text16 word.Transition = codes "transition"
keyword_text16 word.Select = codes "select"
keyword_text16 word.Accept = codes "accept"
keyword_text16 word.Reject = codes "reject"
keyword_text16 word.Default = codes "default"
keyword_text16 word.Underscore = codes "_"
keyword_text16 word.If = codes "if"
keyword_text16 word.Else = codes "else"
keyword_text16 word.Switch = codes "switch"
keyword_text16 word.ActionRun = codes "action_run"
keyword_text16 word.True = codes "true"
keyword_text16 word.False = codes "false"
keyword_text16 word.Error = codes "error"

-- all reserved words
abbrev pub all_keywords16 : List Keyword16
all_keywords16 =
    word.V1Switch ∷ word.Main ∷ word.Header ∷ word.Bit ∷ word.Struct ∷ word.Parser ∷ word.Control
    ∷ word.Apply ∷ word.Bool ∷ word.In ∷ word.Out ∷ word.InOut ∷ word.Counter ∷ word.DirectCounter
    ∷ word.Register ∷ word.Meter ∷ word.Action ∷ word.Table ∷ word.Key ∷ word.Actions ∷ word.NoAction
    ∷ word.Size ∷ word.Counters ∷ word.DefaultAction ∷ word.State ∷ word.Transition ∷ word.Select
    ∷ word.Accept ∷ word.Reject ∷ word.Default ∷ word.Underscore ∷ word.If ∷ word.Else ∷ word.Switch
    ∷ word.ActionRun ∷ word.True ∷ word.False ∷ word.Error
    ∷ []

-- the octets are one of the words
abbrev pub is_among16 : List ℕ → List Keyword16 → Bool
is_among16 text words = list_any (λ other. bytes_eq text (keyword_text16 other)) words

-- the octets are a reserved word
abbrev pub is_reserved16 : List ℕ → Bool
is_reserved16 text = is_among16 text all_keywords16
