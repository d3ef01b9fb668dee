-- The objects of a program without registers and meters are counters.
use Rattle.std.proofs.Common.{◌≡◌, ℕ, ◌+◌, ◌&&◌, Bool, true, false, cond, List, [], ◌∷◌, ◌++◌, map, flat_map, filter_map, fold, All, refl, sym, ◌∙◌, ap, subst}
use Rattle.std.specs.List.{list_all, AllByRecursion}
use Rattle.std.specs.Str.{bytes_eq}
use Rattle.std.specs.BTreeSet.{insert_key}
use Rattle.std.specs.Ordering.{nat_cmp}
use Rattle.std.specs.Cmp.Lexicographic.{slice_cmp}
use Rattle.std.proofs.lemmas.Slice.Eq.{bytes_eq-Decides}
use Rattle.std.proofs.lemmas.Map.Views.{All-insert_key}
use Rattle.std.proofs.lemmas.List.Elements.{All-nil, All-cons, All-head, All-tail}
use Rattle.state_store.specs.declared.shapes.Shape.{Shape}
use Rattle.state_store.specs.declared.shapes.Shape.TheVariants.{Counter, Direct, Register, Meter}
use Rattle.state_store.specs.Cells.{IsCounter}
use Rattle.match_core.specs.declared.signatures.Signature.{Signature}
use Rattle.match_core.specs.declared.signatures.ObjectSig.{ObjectSig}
use Rattle.match_core.specs.declared.entries.Entries.{Entries}
use Rattle.match_core.specs.Stores.{entries_counted, sized, shapes_from, shapes_of}
use Rattle.fabric.proofs.OwnJobs.{all_append}
use Rattle.p416_syntax.specs.declared.controls.Instance.{Instance}
use Rattle.p416_syntax.specs.declared.controls.Instance.TheVariants as instance
use Rattle.p416_syntax.specs.declared.controls.Local.{Local}
use Rattle.p416_syntax.specs.declared.controls.Local.TheVariants as local
use Rattle.p416_syntax.specs.declared.program.Decl16.{Decl16}
use Rattle.p416_syntax.specs.declared.program.Decl16.TheVariants as decl
use Rattle.p416_syntax.specs.declared.program.Syntax16.{Syntax16}
use Rattle.p416_syntax.specs.Names.{Name}
use Rattle.p416_syntax.specs.Tables.{local_object, objects_of}
use Rattle.v1_core.specs.Signatures.{Object, own_object, objects_in, shape_of, shape_among, object_sig, object_names, signature16}
use Rattle.shard_laws.specs.Programs.{is_counter, is_shardable_local, is_shardable_decl, shardable}

pub never : false ≡ true → ⊥
never e = cc e

both : (b c : Bool) {X : Type 0} → (b ≡ true → c ≡ true → X) → b && c ≡ true → X
both true true f is = f refl refl
both true false f is = absurd (never is)
both false c f is = absurd (never is)

-- each of some objects is a counter
abbrev Counts : Object → Type 0
Counts o = IsCounter (shape_of o.instance)

shape_counts : (i : Instance) → is_counter i ≡ true → IsCounter (shape_of i)
shape_counts (instance.Counter size m text) is = tt
shape_counts (instance.DirectCounter m text) is = tt
shape_counts (instance.Register width size text) is = absurd (never is)
shape_counts (instance.Meter size m text) is = absurd (never is)

own_count : (locals : List Local) → list_all is_shardable_local locals ≡ true → AllByRecursion Counts (filter_map own_object locals)
own_count [] is = tt
own_count (local.Instance notes i ∷ locals) is =
    both (is_counter i) (list_all is_shardable_local locals) (λ first rest. (shape_counts i first, own_count locals rest)) is
own_count (local.Var v ∷ locals) is = own_count locals is
own_count (local.Action a ∷ locals) is = own_count locals is
own_count (local.Table t ∷ locals) is = own_count locals is

decl_counts : (d : Decl16) → is_shardable_decl d ≡ true → AllByRecursion Counts (objects_in d)
decl_counts (decl.Header h) is = tt
decl_counts (decl.Struct x) is = tt
decl_counts (decl.Instance notes i) is = (shape_counts i is, tt)
decl_counts (decl.Parser p) is = tt
decl_counts (decl.Control c) is = own_count c.locals is

all_count : (ds : List Decl16) → list_all is_shardable_decl ds ≡ true → AllByRecursion Counts (flat_map objects_in ds)
all_count [] is = tt
all_count (d ∷ ds) is =
    both (is_shardable_decl d) (list_all is_shardable_decl ds) (λ first rest.
    all_append Counts (objects_in d) (flat_map objects_in ds) (decl_counts d first) (all_count ds rest)) is

-- what a name means among counters that have it is a counter
abbrev MeansCounter : List Object → Name → Type 0
MeansCounter os plane = IsCounter (shape_among os plane)

either_counts : (b : Bool) (s t : Shape) → IsCounter s → IsCounter t → IsCounter (cond b s t)
either_counts true s t first rest = first
either_counts false s t first rest = rest

all_widened : (o : Object) (os : List Object) (planes : List Name) → Counts o → AllByRecursion (MeansCounter os) planes → AllByRecursion (MeansCounter (o ∷ os)) planes
all_widened o os [] is all = tt
all_widened o os (plane ∷ planes) is all =
    (either_counts (bytes_eq o.plane plane) (shape_of o.instance) (shape_among os plane) is all.0, all_widened o os planes is all.1)

abbrev plane_of : Object → Name
plane_of o = o.plane

own_planes_count : (os : List Object) → AllByRecursion Counts os → AllByRecursion (MeansCounter os) (map plane_of os)
own_planes_count [] all = tt
own_planes_count (o ∷ os) all =
    let same : bytes_eq o.plane o.plane ≡ true = (bytes_eq-Decides o.plane o.plane).1 refl in (
      subst (λ (b : Bool). IsCounter (cond b (shape_of o.instance) (shape_among os o.plane))) (sym same) all.0,
      all_widened o os (map plane_of os) all.0 (own_planes_count os all.1),
    )

-- the names of a program's objects are those of its declarations
planes_behind : (xs ys : List Object) → map plane_of (xs ++ ys) ≡ map plane_of xs ++ map plane_of ys
planes_behind [] ys = refl
planes_behind (x ∷ xs) ys = ap (λ (l : List Name). x.plane ∷ l) (planes_behind xs ys)

own_planes : (locals : List Local) → map plane_of (filter_map own_object locals) ≡ flat_map local_object locals
own_planes [] = refl
own_planes (local.Instance notes i ∷ locals) = ap (λ (l : List Name). local_object (local.Instance notes i) ++ l) (own_planes locals)
own_planes (local.Var v ∷ locals) = own_planes locals
own_planes (local.Action a ∷ locals) = own_planes locals
own_planes (local.Table t ∷ locals) = own_planes locals

planes_in : (d : Decl16) → map plane_of (objects_in d) ≡ objects_of d
planes_in (decl.Header h) = refl
planes_in (decl.Struct x) = refl
planes_in (decl.Instance notes i) = refl
planes_in (decl.Parser p) = refl
planes_in (decl.Control c) = own_planes c.locals

all_planes : (ds : List Decl16) → map plane_of (flat_map objects_in ds) ≡ flat_map objects_of ds
all_planes [] = refl
all_planes (d ∷ ds) =
    planes_behind (objects_in d) (flat_map objects_in ds)
    ∙ (ap (λ (l : List Name). l ++ map plane_of (flat_map objects_in ds)) (planes_in d) ∙ ap (λ (l : List Name). objects_of d ++ l) (all_planes ds))

-- what holds of names holds of them in order
put_in_order : (P : Name → Type 0) (names done : List Name) → All P done → AllByRecursion P names → All P (fold (insert_key (slice_cmp nat_cmp)) done names)
put_in_order P [] done all more = all
put_in_order P (text ∷ names) done all more =
    put_in_order P names (insert_key (slice_cmp nat_cmp) done text) (All-insert_key (slice_cmp nat_cmp) text P done all more.0) more.1

names_count : (syntax : Syntax16) → shardable syntax ≡ true → All (MeansCounter (flat_map objects_in syntax.decls)) (object_names syntax)
names_count syntax is =
    let os : List Object = flat_map objects_in syntax.decls in
    put_in_order (MeansCounter os) (flat_map objects_of syntax.decls) [] (All-nil (MeansCounter os))
    (subst (AllByRecursion (MeansCounter os)) (all_planes syntax.decls) (own_planes_count os (all_count syntax.decls is)))

-- an object of a signature is a counter
abbrev IsCounterSig : ObjectSig → Type 0
IsCounterSig object = IsCounter object.shape

sigs_count : (syntax : Syntax16) (planes : List Name) → All (MeansCounter (flat_map objects_in syntax.decls)) planes → All IsCounterSig (map (object_sig syntax) planes)
sigs_count syntax [] all = All-nil IsCounterSig
sigs_count syntax (plane ∷ planes) all =
    All-cons IsCounterSig (object_sig syntax plane) (map (object_sig syntax) planes) (All-head (MeansCounter (flat_map objects_in syntax.decls)) plane planes all)
    (sigs_count syntax planes (All-tail (MeansCounter (flat_map objects_in syntax.decls)) plane planes all))

sized_counts : (shape : Shape) (entries : ℕ) → IsCounter shape → IsCounter (sized shape entries)
sized_counts (Counter kind cells) entries is = tt
sized_counts (Direct kind cells) entries is = tt
sized_counts (Register width cells) entries is = absurd is
sized_counts (Meter cells) entries is = absurd is

shapes_count : (signature : Signature) (entries : Entries) (object : ℕ) (objects : List ObjectSig) → All IsCounterSig objects → All IsCounter (shapes_from signature entries object objects)
shapes_count signature entries object [] all = All-nil IsCounter
shapes_count signature entries object (one ∷ others) all =
    All-cons IsCounter _ _ (sized_counts one.shape (entries_counted signature.tables entries.tables object) (All-head IsCounterSig one others all))
    (shapes_count signature entries (object + 1) others (All-tail IsCounterSig one others all))

-- so are the objects of its store
pub all_counters : (syntax : Syntax16) (entries : Entries) → shardable syntax ≡ true → All IsCounter (shapes_of (signature16 syntax) entries)
unfolding signature16
all_counters syntax entries is =
    shapes_count (signature16 syntax) entries 0 (signature16 syntax).objects (sigs_count syntax (object_names syntax) (names_count syntax is))
