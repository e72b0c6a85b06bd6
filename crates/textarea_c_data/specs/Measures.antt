-- The measured heights that C gets.
use Rattle.textarea_data.specs.declared.measure.TextAreaMeasure.{TextAreaMeasure}
use Rattle.textarea_c_data.specs.declared.measure.Measure.{Measure}

abbrev pub measure_of_numbers : Measure → TextAreaMeasure
measure_of_numbers m = record { content_rows = m.content_rows; preferred_rows = m.preferred_rows; min_rows = m.min_rows; max_rows = m.max_rows }
