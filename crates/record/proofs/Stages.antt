-- The frame check, number by number: what is left where no fault with a smaller number is. Assumes nothing.
use Rattle.std.proofs.Common.{◌≡◌, ℕ, Bool, true, List, [], ◌++◌, sym, ap, ◌∙◌}
use Rattle.record.specs.declared.faults.FrameFault.TheVariants.{Length}
use Rattle.record.specs.Contents.{fields_faults}
use Rattle.record.specs.Directory.{directory_faults}
use Rattle.record.specs.Frame.{end_faults, frame_faults, size_rule}
use Rattle.record.specs.Leader.{leader_faults}
use Rattle.record.specs.Rules.{rule}
use Rattle.record.proofs.Verdicts.{skip}

module _ (bs : List ℕ) where
  pub at_size : (t : Bool) → t ≡ size_rule bs → frame_faults bs ≡ rule t Length ++ (leader_faults bs ++ (directory_faults bs ++ (fields_faults bs ++ end_faults bs)))
  unfolding frame_faults
  at_size t e = ap (λ u. rule u Length ++ (leader_faults bs ++ (directory_faults bs ++ (fields_faults bs ++ end_faults bs)))) (sym e)

  module _ (size : true ≡ size_rule bs) where
    pub at_leader : frame_faults bs ≡ leader_faults bs ++ (directory_faults bs ++ (fields_faults bs ++ end_faults bs))
    at_leader = at_size true size

    module _ (leader : leader_faults bs ≡ []) where
      pub at_directory : frame_faults bs ≡ directory_faults bs ++ (fields_faults bs ++ end_faults bs)
      at_directory = at_leader ∙ skip _ leader

      module _ (directory : directory_faults bs ≡ []) where
        pub at_fields : frame_faults bs ≡ fields_faults bs ++ end_faults bs
        at_fields = at_directory ∙ skip _ directory

        pub at_end : fields_faults bs ≡ [] → frame_faults bs ≡ end_faults bs
        at_end fields = at_fields ∙ skip _ fields
