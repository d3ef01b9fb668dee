-- That the rows of counters, meters and registers have the meaning of their words.
use Rattle.std.proofs.Common.{◌≡◌, ℕ, false, List, [], ◌∷◌, map, codes, bytes_eq, refl}
use Rattle.std.proofs.lemmas.Bool.{or_right}
use Rattle.predictive_parser.proofs.Meanings.{RowsShow, NoneShows}
use Rattle.p414_syntax.specs.declared.keyword.Keyword.TheVariants as key
use Rattle.p414_syntax.specs.declared.objects.CounterType.TheVariants as counter_type
use Rattle.p414_syntax.specs.declared.objects.StateAttr.TheVariants as attr
use Rattle.p414_syntax.specs.Written.{state_word}
use Rattle.p414_syntax.specs.Conditions.{is_among, has_word, counter_needs, register_needs}
use Rattle.p414_reader.specs.declared.symbols.Word.TheVariants as word
use Rattle.p414_reader.specs.declared.symbols.ObjectWord.{ObjectWord}
use Rattle.p414_reader.specs.declared.symbols.ObjectWord.TheVariants as object
use Rattle.p414_reader.specs.declared.built.Built.{Built}
use Rattle.p414_reader.specs.internal.Rows.{grammar14}
use Rattle.p414_reader.proofs.Meaning.{meaning14, object_words, object_needs}
use Rattle.p414_reader.proofs.Lists.{neither_left, neither_right, neither_of, stay_extended, stay_none}
use Rattle.p414_reader.proofs.Needs.{not_needed, still_needed}
use Rattle.p414_reader.proofs.Fixed.{fixed14, by_name, by_number, by_new}

-- a word that is none of those that some objects need
neither_type : (w : List ℕ) → is_among w object_needs ≡ false → is_among w counter_needs ≡ false
neither_type w e = neither_of (bytes_eq w (codes "type")) false (neither_left (bytes_eq w (codes "type")) (is_among w register_needs) e) refl

neither_width : (w : List ℕ) → is_among w object_needs ≡ false → is_among w register_needs ≡ false
neither_width w e = neither_right (bytes_eq w (codes "type")) (is_among w register_needs) e

pub rows_mean : (w : ObjectWord) (built : Built) → RowsShow grammar14 fixed14 meaning14 (word.Object w) built (grammar14.rows (word.Object w))
rows_mean object.Attr b = (
  by_new key.Direct (object_words b) _ (λ new. by_name _ (λ text. (attr.Direct text, (refl, refl, new), refl))),
  (
    by_new key.Static (object_words b) _ (λ new. by_name _ (λ text. (attr.Static text, (refl, refl, new), refl))),
    (
      by_new key.Result (object_words b) _ (λ new us r e. rw e (attr.Result r, (refl, refl, new), refl)),
      (
        by_new key.InstanceCount (object_words b) _ (λ new. by_number _ (λ n. (attr.InstanceCount n, (refl, refl, new), refl))),
        (
          by_new key.MinWidth (object_words b) _ (λ new. by_number _ (λ n. (attr.MinWidth n, (refl, refl, new), refl))),
          (
            by_new key.Saturating (object_words b) _ (λ new. (attr.Saturating, (refl, refl, new), refl)),
            (by_new key.Signed (object_words b) _ (λ new. (attr.Signed, (refl, refl, new), refl)), tt),
          ),
        ),
      ),
    ),
  ),
)
rows_mean object.CounterAttrs b = (
  λ us t e vs attrs s. rw (e, s.0) (
    attr.Counts t ∷ attrs,
    (refl, refl, λ h. stay_extended state_word (attr.Counts t) attrs b.objects (not_needed counter_needs (codes "type") (object_words b) refl h) s.1),
    refl,
  ),
  (
    by_new key.Width (object_words b) _ (λ new. by_number _ (λ n vs attrs s. rw s.0 (
      attr.Width n ∷ attrs,
      (refl, s.1, λ h. stay_extended state_word (attr.Width n) attrs b.objects new (s.2 (still_needed state_word counter_needs (attr.Width n) b.objects refl h))),
      refl,
    ))),
    (
      by_new key.Layout (object_words b) _ (λ new. by_name _ (λ text vs attrs s. rw s.0 (
        attr.Layout text ∷ attrs,
        (refl, s.1, λ h. stay_extended state_word (attr.Layout text) attrs b.objects new (s.2 (still_needed state_word counter_needs (attr.Layout text) b.objects refl h))),
        refl,
      ))),
      (
        λ us a s vs attrs f. rw (s.0, f.0) (
          a ∷ attrs,
          (
            refl,
            or_right (is_among (state_word a) counter_needs) (has_word counter_needs (map state_word attrs)) f.1,
            λ h. stay_extended state_word a attrs b.objects s.2 (f.2 (still_needed state_word counter_needs a b.objects (neither_type (state_word a) s.1) h)),
          ),
          refl,
        ),
        tt,
      ),
    ),
  ),
)
rows_mean object.RegisterAttrs b = (
  by_number _ (λ n vs attrs s. rw s.0 (
    attr.Width n ∷ attrs,
    (refl, refl, λ h. stay_extended state_word (attr.Width n) attrs b.objects (not_needed register_needs (codes "width") (object_words b) refl h) s.1),
    refl,
  )),
  (
    by_name _ (λ text vs attrs s. rw s.0 (
      attr.Layout text ∷ attrs,
      (refl, refl, λ h. stay_extended state_word (attr.Layout text) attrs b.objects (not_needed register_needs (codes "layout") (object_words b) refl h) s.1),
      refl,
    )),
    (
      by_new key.Counts (object_words b) _ (λ new us t e vs attrs s. rw (e, s.0) (
        attr.Counts t ∷ attrs,
        (refl, s.1, λ h. stay_extended state_word (attr.Counts t) attrs b.objects new (s.2 (still_needed state_word register_needs (attr.Counts t) b.objects refl h))),
        refl,
      )),
      (
        λ us a s vs attrs f. rw (s.0, f.0) (
          a ∷ attrs,
          (
            refl,
            or_right (is_among (state_word a) register_needs) (has_word register_needs (map state_word attrs)) f.1,
            λ h. stay_extended state_word a attrs b.objects s.2 (f.2 (still_needed state_word register_needs a b.objects (neither_width (state_word a) s.1) h)),
          ),
          refl,
        ),
        tt,
      ),
    ),
  ),
)
rows_mean object.MoreAttrs b = (
  by_new key.Counts (object_words b) _ (λ new us t e vs attrs s. rw (e, s.0) (
    attr.Counts t ∷ attrs,
    (refl, stay_extended state_word (attr.Counts t) attrs b.objects new s.1),
    refl,
  )),
  (
    by_new key.Width (object_words b) _ (λ new. by_number _ (λ n vs attrs s. rw s.0 (
      attr.Width n ∷ attrs,
      (refl, stay_extended state_word (attr.Width n) attrs b.objects new s.1),
      refl,
    ))),
    (
      by_new key.Layout (object_words b) _ (λ new. by_name _ (λ text vs attrs s. rw s.0 (
        attr.Layout text ∷ attrs,
        (refl, stay_extended state_word (attr.Layout text) attrs b.objects new s.1),
        refl,
      ))),
      (λ us a s vs attrs f. rw (s.0, f.0) (a ∷ attrs, (refl, stay_extended state_word a attrs b.objects s.2 f.1), refl), tt),
    ),
  ),
)
rows_mean object.CounterType b =
    ((counter_type.Packets, refl, refl), ((counter_type.Bytes, refl, refl), ((counter_type.PacketsAndBytes, refl, refl), tt)))

pub none_means : (w : ObjectWord) (built : Built) → NoneShows grammar14 fixed14 meaning14 (word.Object w) built (grammar14.otherwise (word.Object w))
none_means object.Attr b = tt
none_means object.CounterAttrs b = tt
none_means object.RegisterAttrs b = tt
none_means object.MoreAttrs b = ([], (refl, stay_none (object_words b)), refl)
none_means object.CounterType b = tt
