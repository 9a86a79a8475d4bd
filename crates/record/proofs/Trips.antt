-- Reading and writing undo one another, and each element stands where its place says. Assumes nothing.
use Rattle.std.proofs.Common.{◌≡◌, ℕ, ◌<◌, List, [], map, length, sym, ap, ◌∙◌, subst, arith}
use lib.ListN.{length-map}
use Rattle.std.specs.List.{All}
use Rattle.std.proofs.lemmas.List.Elements.{All-get_or}
use Rattle.std.proofs.lemmas.List.{get_or-map}
use Rattle.record.specs.declared.extent.Extent.{Extent}
use Rattle.record.specs.declared.reading.Record.{Record}
use Rattle.record.specs.Directory.{entry_size, entry_tag}
use Rattle.record.specs.Extents.{extent_of, no_extent, starts}
use Rattle.record.specs.Figures.{part}
use Rattle.record.specs.Formed.{Formed, FormedField}
use Rattle.record.specs.Frame.{Framed, frame_of}
use Rattle.record.specs.Layout.{extent, field_laid, fields_laid, laid, layout}
use Rattle.record.specs.Leader.{codes_of, entry_count}
use Rattle.record.specs.Parts.{Field, Parts, tag_of}
use Rattle.record.specs.Parts.Field.{Control}
use Rattle.record.specs.Reading.{bare, contents_of, extents_of, field_read, fields_from, fields_of, held, parts_of, told_place, without_places}
use Rattle.record.specs.Trips.{OfParts, ReadBack, Reads, Stands, SubfieldsStand}
use Rattle.record.proofs.Back.{field, field_part, right}
use Rattle.record.proofs.Forth.{framed_laid}
use Rattle.record.proofs.Laid.{Right, count_laid, tag_laid}
use Rattle.record.proofs.Reopened.{held_back, holding, holding_stands, reopened}
use Rattle.record.proofs.Reread.{all_fields, bytes_back, codes_back, contents_back, each_field, entry_back, extents_back}

-- what is read from well-formed parts that were laid out
module _ (r : Parts) (ok : Formed r) where
  abbrev es : List Extent
  es = map extent r.fields

  abbrev fs : List ℕ
  fs = fields_laid r.fields

  abbrev laid_right : Right r.codes es fs
  laid_right = right r ok

  count_back : entry_count (layout r) ≡ length r.fields
  count_back = count_laid r.codes es fs laid_right ∙ length-map r.fields extent

  module _ (k : ℕ) (within : k < length r.fields) where
    abbrev f : Field
    f = field r.fields k

    abbrev p : ℕ
    p = told_place (layout r) k

    formed : FormedField f
    formed = All-get_or FormedField r.fields k (Control 0 []) within ok.fields_are

    listed : k < length es
    listed = rw length-map within

    same : extent_of es k ≡ extent f
    same = get_or-map extent r.fields k (Control 0 []) no_extent within

    tag_back : entry_tag (layout r) k ≡ tag_of f
    tag_back = tag_laid r.codes es fs laid_right k listed ∙ ap (λ e. e.tag) same

    whole_back : part (layout r) p (entry_size (layout r) k) ≡ field_laid f
    whole_back = bytes_back r.codes es fs laid_right k listed ∙ ap (λ e. part fs (starts es k) e.size) same ∙ field_part r.fields k within

    holds_back : (field_read (layout r) k).holds ≡ holding p f
    holds_back = (λ i. held (tag_back i) p (whole_back i)) ∙ held_back f formed p

    bare_back : bare (field_read (layout r) k) ≡ f
    bare_back = (λ i. without_places (tag_back i) (held (tag_back i) p (whole_back i))) ∙ reopened f formed p

    stands_laid : Stands (layout r) (field_read (layout r) k)
    stands_laid = record {
      entry_stands = entry_back r.codes es fs laid_right k listed;
      field_stands = whole_back ∙ ap field_laid (sym bare_back);
      subfields_stand = subst (SubfieldsStand (layout r)) (sym holds_back) (holding_stands (layout r) f p (entry_size (layout r) k) whole_back);
    }

  fields_back : map bare (fields_of (layout r)) ≡ r.fields
  fields_back = each_field bare (layout r) r.fields (Control 0 []) count_back bare_back

  pub parts_back : parts_of (layout r) ≡ r
  parts_back i = record { codes = codes_back r.codes es fs laid_right i; fields = fields_back i }

  all_stand : All (Stands (layout r)) (fields_of (layout r))
  all_stand = all_fields (Stands (layout r)) (layout r) (λ k h. stands_laid k (omega (arith, count_back)))

  laid_again : laid (codes_of (layout r)) (extents_of (layout r)) (contents_of (layout r)) ≡ layout r
  laid_again i = laid (codes_back r.codes es fs laid_right i) (extents_back r.codes es fs laid_right i) (contents_back r.codes es fs laid_right i)

-- codes, extents and bytes of parts are laid out as those parts are
pub laid_parts : (p : Parts) (codes : List ℕ) (es : List Extent) (fs : List ℕ) → OfParts p codes es fs → laid codes es fs ≡ layout p
laid_parts p codes _ _ of = λ i. laid (of.codes_are i) (of.extents_are i) (of.contents_are i)

pub read_back : (codes : List ℕ) (es : List Extent) (fs : List ℕ) → Right codes es fs → Framed (laid codes es fs) → ReadBack codes es fs (laid codes es fs)
read_back codes es fs ok framed = record {
  framed = framed;
  codes_are = codes_back codes es fs ok;
  extents_are = extents_back codes es fs ok;
  contents_are = contents_back codes es fs ok;
  parts_are = λ p formed of. ap parts_of (laid_parts p codes es fs of) ∙ parts_back p formed;
}

pub stands : (bs : List ℕ) → Framed bs → All (Stands bs) (fields_of bs)
stands bs framed = let l = framed_laid bs framed in subst (λ b. All (Stands b) (fields_of b)) (sym l.end_to_end) (all_stand l.parts l.formed)

pub reads : (bs : List ℕ) (x : Record) → Framed bs → x.bytes.now ≡ bs → x.frame ≡ frame_of bs → Reads bs x
reads bs x framed bytes_are frame_is =
    let l = framed_laid bs framed in
    let is : parts_of bs ≡ l.parts = ap parts_of l.end_to_end ∙ parts_back l.parts l.formed in
    record {
      framed = framed;
      bytes_are = bytes_are;
      fields_are = (λ i. fields_from (bytes_are i) 0 (frame_is i).entries);
      formed = subst Formed (sym is) l.formed;
      back = ap layout is ∙ sym l.end_to_end;
      only = λ p formed e. sym (parts_back p formed) ∙ ap parts_of e;
      written_back = ap (λ b. laid (codes_of b) (extents_of b) (contents_of b)) l.end_to_end ∙ laid_again l.parts l.formed ∙ sym l.end_to_end;
      stand = stands bs framed;
    }
