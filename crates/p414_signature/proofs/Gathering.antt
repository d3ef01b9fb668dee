-- A table is put together.
use Rattle.std.proofs.Common.{◌≡◌, ℕ, List, map, Option, ap, ◌∙◌}
use Rattle.match_core.specs.declared.signatures.KeySpec.{KeySpec}
use Rattle.match_core.specs.declared.signatures.ActionSig.{ActionSig}
use Rattle.match_core.specs.declared.signatures.TableSig.{TableSig}
use Rattle.p414_syntax.specs.declared.syntax.Decl.{Decl}
use Rattle.p414_syntax.specs.declared.tables.Read.{Read}
use Rattle.p414_syntax.specs.declared.tables.Table.{Table}
use Rattle.p414_syntax.specs.Attributes.{reads_of}
use Rattle.p414_syntax.specs.Names.{Name}
use Rattle.p414_sem.specs.Signatures.{action_sig, actions_in_order, direct_counter, key_spec, table_sig, table_size}
use Rattle.p414_signature.specs.declared.directs.Objects.{Objects}
use Rattle.p414_signature.specs.internal.Gathered.{AreObjects, direct_in}
use Rattle.p414_signature.proofs.Counting.{direct_is}

abbrev table_with : Name → List KeySpec → List ActionSig → ℕ → Option ℕ → TableSig
table_with name keys actions size direct = record { name = name; keys = keys; actions = actions; size = size; direct = direct }

same_table : (name name' : Name) (keys keys' : List KeySpec) (actions actions' : List ActionSig) (size size' : ℕ) (direct direct' : Option ℕ) → name ≡ name' → keys ≡ keys' → actions ≡ actions' → size ≡ size' → direct ≡ direct' → table_with name keys actions size direct ≡ table_with name' keys' actions' size' direct'
same_table name name' keys keys' actions actions' size size' direct direct' e f g h i =
    ap (λ (x : Name). table_with x keys actions size direct) e
    ∙ (ap (λ (x : List KeySpec). table_with name' x actions size direct) f
    ∙ (ap (λ (x : List ActionSig). table_with name' keys' x size direct) g
    ∙ (ap (λ (x : ℕ). table_with name' keys' actions' x direct) h ∙ ap (λ (x : Option ℕ). table_with name' keys' actions' size' x) i)))

pub table_made : (ds : List Decl) (o : Objects) (t : Table) (name text table : Name) (keys : List KeySpec) (reads : List Read) (actions : List ActionSig) (size : ℕ) (direct : Option ℕ) → AreObjects ds o → name ≡ text → text ≡ t.name → keys ≡ map (key_spec ds) reads → reads ≡ reads_of t.attributes → actions ≡ map (action_sig ds) (actions_in_order t) → size ≡ table_size t → direct ≡ direct_in o table → table ≡ t.name → table_with name keys actions size direct ≡ table_sig ds t
table_made ds o t name text table keys reads actions size direct objects is_text text_is is_keys reads_are is_actions is_size is_direct table_is =
    same_table name t.name keys (map (key_spec ds) (reads_of t.attributes)) actions (map (action_sig ds) (actions_in_order t)) size (table_size t) direct (direct_counter ds t.name)
    (is_text ∙ text_is) (is_keys ∙ ap (λ (l : List Read). map (key_spec ds) l) reads_are) is_actions is_size
    (is_direct ∙ (ap (λ (n : Name). direct_in o n) table_is ∙ direct_is ds o t.name objects))
