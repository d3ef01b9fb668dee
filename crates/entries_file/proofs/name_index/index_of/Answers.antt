use Rattle.std.proofs.Common.{◌≡◌, ◌∙◌, ◌+◌, sym, ap, subst, refl, map, take, get_or, List, [], ◌∷◌, ◌++◌, ℕ, arith, Option, Some, None}
use Rattle.entries_file.specs.internal.Drafts.{IsNameIndex}
use Rattle.entries_file.proofs.NameLaws.{index_put, index_pass, names_more, names_count}
use Rattle.entries_file.proofs.name_index.index_of.Goals as goal
use Rattle.entries_file.proofs.name_index.index_of.Goals.{in-Some+in_ok-put_first, in_default}

pub loop-i-preserved : goal.loop-i-preserved
loop-i-preserved g c =
    let listed = g.T.Listed.listed in
    let names = map listed (take c.loop-i.i c.args.items.now) in
    let more = names_more listed c.args.items.now c.loop-i.i c.index-items-i.result (omega arith) in
    let count = names_count listed c.args.items.now c.loop-i.i (omega arith) in
    elim c.match-listed_name.branch [
      | in-Some+in_ok-put_first w ↦
          let named : listed (get_or c.args.items.now c.loop-i.i c.index-items-i.result) ≡ Some w.in-Some.name.now = ap listed (sym c.index-items-i.is) ∙ sym w.in-Some.ensures in
          subst (λ m. IsNameIndex (λ key. key.now) m (map listed (take (c.loop-i.i + 1) c.args.items.now))) (sym w.map-is)
          (subst (λ (ns : List (Option (List ℕ))). IsNameIndex (λ key. key.now) w.put_first.new.map ns) (sym (more ∙ ap (λ (o : Option (List ℕ)). names ++ o ∷ []) named))
          (index_put (λ key. key.now) (λ name. record { ref_ptr = (0, 0); now = name }) (λ name. refl) c.loop-i.map w.put_first.new.map names w.in-Some.name c.loop-i.i count c.loop-i.invariant w.in_ok-put_first.ensures))
      | in_default w ↦
          let unnamed : listed (get_or c.args.items.now c.loop-i.i c.index-items-i.result) ≡ None = ap listed (sym c.index-items-i.is) ∙ (sym c.listed_name.ensures ∙ (rw w.in_default.is refl)) in
          subst (λ m. IsNameIndex (λ key. key.now) m (map listed (take (c.loop-i.i + 1) c.args.items.now))) (sym w.map-is)
          (subst (λ (ns : List (Option (List ℕ))). IsNameIndex (λ key. key.now) c.loop-i.map ns) (sym (more ∙ ap (λ (o : Option (List ℕ)). names ++ o ∷ []) unnamed))
          (index_pass (λ key. key.now) c.loop-i.map names c.loop-i.invariant))
    ]
